-- A web that is taken in from certified blocks stays as reading the order asks, also where the book grows. Assumes nothing beyond what the
-- statements say.
use Rattle.std.proofs.Common.{◌≡◌, ℕ, ◌-◌, ◌<◌, ◌≤◌, Bool, true, false, not, ◌&&◌, T, List, [], ◌∷◌, length, sym, refl, subst, ⊎_elim, arith, T_not}
use lib.Dec.{nleb→lt}
use Rattle.model.specs.Names.{is_in, all_in, distinct, different}
use Rattle.model.specs.Thresholds.{quorum}
use Rattle.model.specs.Blocks.{Book, Block, authors_at, valid}
use Rattle.model.specs.Member.{Member, new_member, rival, signable, takable, makable, after_sign, after_take, after_make}
use Rattle.model.specs.Seat.{seat_limit, answer, after, full_signed, full_web, full_round, fit}
use Rattle.model.specs.Promise.{whole_all}
use Rattle.model.proofs.Tools.{and_left, and_right, and_both}
use Rattle.model.proofs.Lists.{In, Within, in_here, in_there, in_cons, in_all, distinct_cons}
use Rattle.model.proofs.Safety.{whole}
use Rattle.model.proofs.Validity.{valid_author, valid-distinct, valid_earlier, valid-quorum, make_valid}
use Rattle.order_theory.proofs.Sound.{sound_web}
use Rattle.replica.specs.Kept.{Kept, SameOf, Call, Sign, Take, Make, called, Certifies, Run, fresh, call, grow, WebsStayFit}

-- the web holds the parents of what it holds
abbrev Closed : Book → List ℕ → Type 0
Closed b web = (x y : ℕ) → In x web → In y (b x).parents → In y web

closed_from : (f : ℕ) (b : Book) (m : Member) → Kept f b m → Closed b m.web
closed_from f b m k = (sound_web f b m.web k.whole k.once k.fits).closed

-- ---- a step
-- what holds before a call, and after it where it is done, holds whatever the answer is
after_cases :
    (P : Member → Type 0) (may full : Bool) (new old : Member) → (T may → T (not full) → P new) → P old → P (after (answer may full) new old)
after_cases P true true new old h k = k
after_cases P true false new old h k = h tt tt
after_cases P false true new old h k = k
after_cases P false false new old h k = k

pub new_kept : (f : ℕ) (b : Book) → Kept f b new_member
unfolding whole_all fit distinct
new_kept f b = record { once = tt; whole = tt; fits = tt; room = omega arith }

-- to take in a block that is valid
taken :
    (f : ℕ) (b : Book) (certified : Bool) (x : ℕ) (m : Member) → (T certified → T (valid f b (b x))) → Kept f b m → T (takable b certified x m) →
    T (not (full_web m)) → Kept f b (after_take x m)
unfolding fit
taken f b certified x m ok k t free =
    let web = m.web in
    let allowed = and_left (certified && all_in (b x).parents web && not (is_in x web)) (not (rival b x web)) t in
    let alone = and_right (certified && all_in (b x).parents web && not (is_in x web)) (not (rival b x web)) t in
    let known = and_left (certified && all_in (b x).parents web) (not (is_in x web)) allowed in
    let new = T_not (is_in x web) (and_right (certified && all_in (b x).parents web) (not (is_in x web)) allowed) in
    let sure = ok (and_left certified (all_in (b x).parents web) known) in
    let parents = in_all (b x).parents web (and_right certified (all_in (b x).parents web) known) in
    let old = closed_from f b m k in
    let closed : Closed b (x ∷ web) = λ y z hy hz. in_there z x web
    (⊎_elim (λ (e : y ≡ x). parents z (subst (λ (w : ℕ). In z (b w).parents) e hz)) (λ (h : In y web). old y z h hz) (in_cons y x web hy)) in
    let few = nleb→lt seat_limit (length web) free in
    record {
      once = distinct_cons x web new k.once;
      whole = whole b (x ∷ web) closed (x ∷ web) (λ _ h. h);
      fits = and_both (valid f b (b x) && not (rival b x web)) (fit f b web) (and_both (valid f b (b x)) (not (rival b x web)) sure alone) k.fits;
      room = few;
    }

pub step_kept : (f i : ℕ) (b : Book) (c : Call) (m : Member) → Certifies f b c → Kept f b m → Kept f b (called f i b c m)
step_kept f i b (Sign x genuine) m ok k =
    after_cases (Kept f b) (signable f b genuine x m) (full_signed m) (after_sign x m) m (λ _ _. k) k
step_kept f i b (Take x certified) m ok k =
    after_cases (Kept f b) (takable b certified x m) (full_web m) (after_take x m) m (taken f b certified x m ok k) k
step_kept f i b (Make x) m ok k =
    after_cases (Kept f b) (makable f b i x m) (full_round m) (after_make m) m (λ _ _. k) k

-- ---- a book that grows
authors_same : (f : ℕ) (b b' : Book) (r : ℕ) (xs : List ℕ) → ((x : ℕ) → In x xs → b' x ≡ b x) → authors_at f b' r xs ≡ authors_at f b r xs
unfolding authors_at
authors_same f b b' r [] same = refl
authors_same f b b' r (x ∷ xs) same =
    let here = same x (in_here x xs) in
    let rest = authors_same f b b' r xs (λ y t. same y (in_there y x xs t)) in
    rw (here, rest)

rival-same :
    (b b' : Book) (x : ℕ) (xs : List ℕ) → b' x ≡ b x → ((y : ℕ) → In y xs → b' y ≡ b y) → rival b' x xs ≡ rival b x xs
unfolding rival
rival-same b b' x [] own same = refl
rival-same b b' x (y ∷ xs) own same =
    let here = same y (in_here y xs) in
    let rest = rival-same b b' x xs own (λ z t. same z (in_there z y xs t)) in
    rw (own, here, rest)

valid_same :
    (f : ℕ) (b b' : Book) (x : ℕ) → b' x ≡ b x → ((y : ℕ) → In y (b x).parents → b' y ≡ b y) → T (valid f b (b x)) → T (valid f b' (b' x))
valid_same f b b' x own same v =
    subst (λ (k : Block). T (valid f b' k)) (sym own)
    (make_valid f b' (b x) (valid_author f b (b x) v) (valid-distinct f b (b x) v)
    (λ y t. subst (λ (k : Block). k.round < (b x).round) (sym (same y t)) (valid_earlier f b (b x) v y t))
    (λ l. subst (λ (xs : List ℕ). quorum f ≤ different xs) (sym (authors_same f b b' ((b x).round - 1) (b x).parents same))
    (valid-quorum f b (b x) v l)))

fit_same :
    (f : ℕ) (b b' : Book) (web : List ℕ) → Closed b web → ((x : ℕ) → In x web → b' x ≡ b x) → (xs : List ℕ) → Within xs web → T (fit f b xs) →
    T (fit f b' xs)
unfolding fit
fit_same f b b' web closed same [] h t = tt
fit_same f b b' web closed same (x ∷ xs) h t =
    let first = and_left (valid f b (b x) && not (rival b x xs)) (fit f b xs) t in
    let own = same x (h x (in_here x xs)) in
    let rest : Within xs web = λ y u. h y (in_there y x xs u) in
    let sure = valid_same f b b' x own (λ y u. same y (closed x y (h x (in_here x xs)) u)) (and_left (valid f b (b x)) (not (rival b x xs)) first) in
    let alone = subst (λ (r : Bool). T (not r)) (sym (rival-same b b' x xs own (λ y u. same y (rest y u))))
    (and_right (valid f b (b x)) (not (rival b x xs)) first) in
    and_both (valid f b' (b' x) && not (rival b' x xs)) (fit f b' xs) (and_both (valid f b' (b' x)) (not (rival b' x xs)) sure alone)
    (fit_same f b b' web closed same xs rest (and_right (valid f b (b x) && not (rival b x xs)) (fit f b xs) t))

pub grown_kept : (f : ℕ) (b b' : Book) (m : Member) → SameOf b b' m → Kept f b m → Kept f b' m
grown_kept f b b' m same k =
    let web = m.web in
    let old = closed_from f b m k in
    let closed : Closed b' web = λ x y hx hy. old x y hx (subst (λ (v : Block). In y v.parents) (same x hx) hy) in
    record {
      once = k.once;
      whole = whole b' web closed web (λ _ h. h);
      fits = fit_same f b b' web old same web (λ _ h. h) k.fits;
      room = k.room;
    }

-- ---- a whole run
pub run_kept : (f i : ℕ) (b : Book) (m : Member) → Run f i b m → Kept f b m
run_kept f i _ _ (fresh b) = new_kept f b
run_kept f i _ _ (call b m c ok run) = step_kept f i b c m ok (run_kept f i b m run)
run_kept f i _ _ (grow b b' m same run) = grown_kept f b b' m same (run_kept f i b m run)

pub webs_stay_fit : WebsStayFit
webs_stay_fit = record { runs = run_kept; new = new_kept; step = step_kept; grown = grown_kept }
