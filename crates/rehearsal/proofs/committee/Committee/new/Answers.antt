use Rattle.std.proofs.Common.{refl, ap, ◌∙◌, replicate}
use Rattle.rehearsal.specs.Noted.{no_note}
use Rattle.rehearsal.proofs.Setting.{plays_opening}
use Rattle.rehearsal.proofs.committee.Committee.new.Goals as goal

pub invariant_of-result : goal.invariant_of-result
invariant_of-result c = record {
  played = ∣ (
    _,
    plays_opening c.args.faults.f _ refl c.empty.ensures.bits c.empty.ensures.holds c.members.result c.members.ensures
        c.in_ok-new.ensures (c.in_ok-new-2.ensures ∙ ap (λ n. replicate n no_note) c.len.ensures) c.new-3.ensures,
  ) ∣₁;
}

pub returns-clause-plays : goal.returns-clause-plays
returns-clause-plays c =
    plays_opening c.args.faults.f _ refl c.empty.ensures.bits c.empty.ensures.holds c.members.result c.members.ensures
    c.in_ok-new.ensures (c.in_ok-new-2.ensures ∙ ap (λ n. replicate n no_note) c.len.ensures) c.new-3.ensures
