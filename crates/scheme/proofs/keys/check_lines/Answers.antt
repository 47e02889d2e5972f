use Rattle.std.proofs.Common.{[], ◌∷◌, ◌++◌, Some, Result, subst}
use Rattle.scheme.specs.declared.keys.KeysError.{KeysError}
use Rattle.scheme.specs.declared.keys.Secret.{Secret}
use Rattle.scheme.specs.Keys.{parsed, left, Gives}
use Rattle.scheme.proofs.Committee.{added_one}
use Rattle.scheme.proofs.keys.check_lines.Goals as goal

pub loop-secret-preserved : goal.loop-secret-preserved
loop-secret-preserved c =
    let it = c.loop-secret.secret-iterator in
    let all = parsed 1 c.args.members c.args.text.now in
    let done = c.loop-secret.invariant.2 in
    let s = c.in_ok-secret.field-0.0 in
    let gives = subst (λ (x : Result Secret KeysError). Gives it (Some x) c.next.new.self) c.in_ok-secret.was c.in-Some.ensures.steps in (
      c.in-Some.ensures.goes.keeps,
      tt,
      done ++ (s ∷ []),
      added_one it.line done s all (left it) (left c.next.new.self) c.loop-secret.invariant.3 gives,
    )
