use Rattle.std.proofs.Common.{◌≡◌, ℕ, ◌<◌, List, length, false, true, ◌==◌, Some, None, Option, Result, IfOk, Vec, Global, vec_items, sym, ap, ◌∙◌, arith}
use Rattle.std.proofs.lemmas.Bool.{eqb-true, eqb-false}
use Rattle.std.proofs.lemmas.Grind.{common_steps}
use Rattle.std.proofs.lemmas.Result.{IfOk-weaker}
use Rattle.std.specs.Option.{option_map}
use Rattle.lines.specs.Hex.{decoded, Spells}
use Rattle.lines.proofs.Pairs.{spelled_even, spelled_decoded, decoded_spells}
use Rattle.lines.proofs.hex.bytes_of.Goals as goal

-- That what is decoded is all of the digits is asked of `grind`, so that these answers stand in whatever words the code says it.

told : (digits : List ℕ) (o : Option (Vec ℕ Global)) → 0 < length digits → option_map vec_items o ≡ decoded digits →
    elim o as (λ _. Type 0) [ Some v ↦ Spells digits (vec_items v) | None ↦ ((bytes : List ℕ) → Spells digits bytes → ⊥) ]
told digits (Some v) some e = decoded_spells digits (vec_items v) some (sym e)
told digits None some e = λ bytes s. let is = spelled_decoded digits bytes s in cc

none_of : (digits read bytes : List ℕ) → (length read == 0) ≡ true → Spells digits bytes → read ≡ digits → ⊥
none_of digits read bytes e s all =
    let even = spelled_even digits bytes s in
    let empty = eqb-true (length read) 0 e in
    let same = ap length all in
    omega arith

told_of : {E : Type 0} (digits read : List ℕ) (r : Result (Option (Vec ℕ Global)) E) → (length read == 0) ≡ false →
    IfOk r (λ o. option_map vec_items o ≡ decoded read) → read ≡ digits →
    IfOk r (λ o. elim o as (λ _. Type 0) [ Some v ↦ Spells digits (vec_items v) | None ↦ ((bytes : List ℕ) → Spells digits bytes → ⊥) ])
told_of digits read r e is all =
    let ne = eqb-false (length read) 0 e in
    let same = ap length all in
    let some : 0 < length digits = omega arith in
    IfOk-weaker r _ _ (λ o e. told digits o some (e ∙ ap decoded all)) is

pub returns-then-is_empty : goal.returns-then-is_empty
returns-then-is_empty c bytes s = none_of c.args.digits.now _ bytes (sym c.if-is_empty.ensures) s (grind (arith, common_steps))

pub returns : goal.returns
returns c = told_of c.args.digits.now _ c.decode.result (sym c.if-is_empty.ensures) c.decode.ensures (grind (arith, common_steps))
