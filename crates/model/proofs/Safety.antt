-- The promises of safety, from what holds in every world and what is known of webs and orders: all of the main promise but that no state is a
-- dead end. Assumes nothing.
use mathlib.Core.Bool.{◌&&◌, not}
use mathlib.Core.List.{List, [], ◌∷◌}
use mathlib.Core.Logic.{⊎_elim}
use Prim.Native.Nat.{ℕ}
use lib.Dec.{T, T_not}
use Rattle.model.specs.Names.{is_in, all_in}
use Rattle.model.specs.Blocks.{Book, valid}
use Rattle.model.specs.Reach.{reached}
use Rattle.model.specs.Member.{rival}
use Rattle.model.specs.World.{world, web_of}
use Rattle.model.specs.Seat.{fit}
use Rattle.model.specs.Promise.{SignsOne, TakesOne, OneCertified, whole_all, WebsWhole, OrdersAgree, OrdersGrow, NothingTwice, NothingForged, CausesFirst}
use Rattle.model.proofs.Tools.{and_both, or_cases}
use Rattle.model.proofs.Lists.{In, Within, in_here, in_there, all_in_lem}
use Rattle.model.proofs.Webs.{SoundWeb}
use Rattle.model.proofs.Reach.{reached_within}
use Rattle.model.proofs.TwoWebs.{one_order, order_grows}
use Rattle.model.proofs.InOrder.{order_in_web, order-distinct, order_causes}
use Rattle.model.proofs.Worlds.{always_sound, only_grows, certified_alone, certified-genuine, web_sound, webs_compatible_later, rivals_none, good_not_bad}

pub signs_one : SignsOne
signs_one f b bad es i x y g hx hy =
    let s = always_sound f b bad es in s.signed_alone i x y g (s.given_signed i x g hx) (s.given_signed i y g hy)

pub takes_one : TakesOne
takes_one f b bad es = (always_sound f b bad es).web_alone

pub one_certified : OneCertified
one_certified = certified_alone

-- what is reached from what a web holds is in it, if the parents of what it holds are
pub whole :
    (b : Book) (web : List ℕ) → ((x y : ℕ) → In x web → In y (b x).parents → In y web) → (xs : List ℕ) → Within xs web → T (whole_all b web xs)
unfolding whole_all
whole b web closed [] h = tt
whole b web closed (x ∷ xs) h =
    and_both (all_in (reached b x) web) (whole_all b web xs)
    (all_in_lem (reached b x) web (reached_within b web closed x (h x (in_here x xs))))
    (whole b web closed xs (λ z t. h z (in_there z x xs t)))

-- a sound web is fit to read the order off
fits : {f : ℕ} {b : Book} {web : List ℕ} → SoundWeb f b web → (xs : List ℕ) → Within xs web → T (fit f b xs)
unfolding fit
fits s [] h = tt
fits {f} {b} s (x ∷ xs) h =
    let here = h x (in_here x xs) in
    let rest = λ (z : ℕ) (t : T (is_in z xs)). h z (in_there z x xs t) in
    and_both (valid f b (b x) && not (rival b x xs)) (fit f b xs)
    (and_both (valid f b (b x)) (not (rival b x xs)) (s.all_valid x here) (rivals_none b x xs (λ y t. s.alone x y here (rest y t))))
    (fits s xs rest)

pub webs_whole : WebsWhole
webs_whole f b bad few es i g =
    let s = web_sound f b bad few es i g in
    let certified = (always_sound f b bad es).web_certified in
    let web = web_of f b bad i es in
    (s.once, whole b web s.closed web (λ x t. t), (λ x t. (certified i x g t, s.all_valid x t)), fits s web (λ x t. t))

pub orders_agree : OrdersAgree
orders_agree f b bad few next es i j gi gj = one_order (webs_compatible_later f b bad few next es i j gi gj)

-- a member's later web holds its earlier one, and goes with it
pub orders_grow : OrdersGrow
orders_grow f b bad few next es i g = order_grows (webs_compatible_later f b bad few next es i i g g) ((only_grows f b bad next es).web i)

pub nothing_twice : NothingTwice
nothing_twice f b bad few es i g = order-distinct (web_sound f b bad few es i g)

-- what is ordered is in the web, so it is certified, so a good member found it genuine
pub nothing_forged : NothingForged
nothing_forged f b bad few es i g x t author =
    let in_web = order_in_web (web_sound f b bad few es i g) x t in
    let genuine = certified-genuine f b bad few es x ((always_sound f b bad es).web_certified i x g in_web) in
    ⊎_elim (λ h. absurd (T_not (bad (b x).author) (good_not_bad f bad (b x).author author) h)) (λ h. h)
    (or_cases (bad (b x).author) (is_in x (world f b bad es).made) genuine)

pub causes_first : CausesFirst
causes_first f b bad few es i g = order_causes (web_sound f b bad few es i g)
