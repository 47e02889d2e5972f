use Rattle.std.proofs.Common.{ltb, vec_items, ap, ◌∙◌}
use Rattle.std.proofs.Math.Logic.{∥∥₁_elim}
use Rattle.std.specs.Coded.{le_prop}
use Rattle.book.specs.Views.{held}
use Rattle.model.specs.Thresholds.{members}
use Rattle.rehearsal.specs.Scenes.{world_in}
use Rattle.rehearsal.specs.Held.{Played}
use Rattle.rehearsal.specs.Played.{parts}
use Rattle.rehearsal.proofs.Reading.{good_so, readable-seat, names-read, member_seated, order-good, readable_some}
use Rattle.rehearsal.proofs.committee.Committee.order.Goals as goal

pub returns : goal.returns
returns c s p =
    let self = parts c.args.self.now in
    let i = c.args.member in
    let member = c.if-not-has_member.ensures ∙ ap (λ f. ltb i (members f)) p.faults in
    let g = good_so s self p i member (c.if-contains.ensures s.bad p.bad) in
    order-good s self p i (vec_items c.in_ok-first.field-0) g
    (names-read s self p (held c.view-book.result) (c.view-book.ensures ∙ p.book) i g
    c.order-count.result c.order-count.new.out (vec_items c.in_ok-first.field-0) c.in_ok-first.ensures
    (c.order-count.ensures.count (world_in s).all p.seats) (c.order-count.ensures.listed (world_in s).all p.seats))

pub order-count-requires : goal.order-count-requires
order-count-requires c =
    let self = parts c.args.self.now in
    let i = c.args.member in
    let good = λ (w : Played self). good_so w.0 self w.1 i (c.if-not-has_member.ensures ∙ ap (λ f. ltb i (members f)) w.1.faults) (c.if-contains.ensures w.0.bad w.1.bad) in
    record {
      there = ∥∥₁_elim c.args.self.now.played le_prop (λ (s, p). member_seated s self p i (good (s, p)));
      readable = λ d. readable_some _ _ _ c.args.self.now.played (λ (s, p).
          let g = good (s, p) in readable-seat s self p (held c.view-book.result) (c.view-book.ensures ∙ p.book) i g d (member_seated s self p i g));
    }
