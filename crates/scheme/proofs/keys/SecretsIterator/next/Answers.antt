use Rattle.std.proofs.Common.{◌≡◌, ◌+◌, ◌<◌, suc, length, Some, Result, sym, ap, ◌∙◌, subst, arith}
use Rattle.std.specs.Option.{option_map}
use Rattle.scheme.specs.declared.keys.KeysError.{KeysError}
use Rattle.scheme.specs.declared.keys.Secret.{Secret}
use Rattle.scheme.specs.declared.keys.Secrets.{Secrets}
use Rattle.std.proofs.lemmas.Bool.{eqb-true, eqb-false}
use Rattle.scheme.specs.Keys.{secret_of, on_line, parsed, left, Gives}
use Rattle.scheme.proofs.Committee.{ended, too_many, missing, one_line, gives_line}
use Rattle.scheme.proofs.keys.SecretsIterator.next.Goals as goal

pub returns-then-is_empty-clause-steps : goal.returns-then-is_empty-clause-steps
returns-then-is_empty-clause-steps c =
    let s = c.args.self.now in
    let over : s.members ≡ 0 = omega (arith, c.in_default.ensures) in
    ended s.line s.members s.rest.now over (eqb-true (length s.rest.now) 0 (sym c.if-is_empty.ensures))

pub returns-in_default-clause-steps : goal.returns-in_default-clause-steps
returns-in_default-clause-steps c =
    let s = c.args.self.now in
    let over : s.members ≡ 0 = omega (arith, c.in_default.ensures) in
    let full = eqb-false (length s.rest.now) 0 (sym c.if-is_empty.ensures) in
    too_many s.line s.members s.rest.now over (omega (arith, full))

pub returns-then-is_empty-2-clause-steps : goal.returns-then-is_empty-2-clause-steps
returns-then-is_empty-2-clause-steps c =
    let s = c.args.self.now in
    let some : 0 < s.members = omega (arith, c.in-Some.ensures) in
    missing s.line s.members s.rest.now some (eqb-true (length s.rest.now) 0 (sym c.if-is_empty-2.ensures))

pub returns-clause-steps : goal.returns-clause-steps
returns-clause-steps c =
    let s = c.args.self.now in
    let m = c.in-Some.members in
    let t : Secrets = record { rest = c.split_line.result.1; line = s.line + 1; members = m } in
    let secret = c.read_secret.result in
    let digits = option_map (λ (x : Secret). x.0) secret in
    let more : s.members ≡ suc m = omega (arith, c.in-Some.ensures) in
    let full = eqb-false (length s.rest.now) 0 (sym c.if-is_empty-2.ensures) in
    let line : left s ≡ on_line s.line digits (left t)
    = one_line s.line s.members m s.rest.now digits more (omega (arith, full)) (c.read_secret.ensures ∙ ap secret_of c.split_line.ensures.line)
    ∙ ap (λ r. on_line s.line digits (parsed (s.line + 1) m r)) (sym c.split_line.ensures.rest) in
    subst (λ (r : Result Secret KeysError). Gives s (Some r) t) (sym c.ok_or.ensures.value) (gives_line s t secret line)
