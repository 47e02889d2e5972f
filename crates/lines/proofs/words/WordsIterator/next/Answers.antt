use Rattle.std.proofs.Common.{◌∷◌, length, rules, arith, sym, ap, ◌∙◌}
use Rattle.lines.specs.Left.{left_of}
use Rattle.lines.proofs.Cuts.{word_here, last_word}
use Rattle.lines.proofs.words.WordsIterator.next.Goals as goal

pub returns-in-Some-clause-steps : goal.returns-in-Some-clause-steps
returns-in-Some-clause-steps c =
    ap left_of (sym c.take.ensures.value ∙ c.in_ok-bytes.was) ∙ word_here c.in_ok-bytes.bytes.now c.in-Some.place (search rules) (search rules) (search rules)

pub returns-in-Some-clause-goes : goal.returns-in-Some-clause-goes
returns-in-Some-clause-goes c =
    record { on = λ _. (tt, tt, omega (arith, ap length (returns-in-Some-clause-steps c))); keeps = tt; rests = λ _. tt }

pub returns-in-None-clause-steps : goal.returns-in-None-clause-steps
returns-in-None-clause-steps c =
    ap left_of (sym c.take.ensures.value ∙ c.in_ok-bytes.was) ∙ last_word c.in_ok-bytes.bytes.now (search rules) ∙ search rules

pub returns-in-None-clause-goes : goal.returns-in-None-clause-goes
returns-in-None-clause-goes c =
    record { on = λ _. (tt, tt, omega (arith, ap length (returns-in-None-clause-steps c))); keeps = tt; rests = λ _. tt }
