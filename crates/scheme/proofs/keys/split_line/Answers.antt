use Rattle.std.proofs.Common.{◌+◌, drop, rules, ◌∙◌, arith, take_all, length-drop}
use Rattle.scheme.proofs.Lines.{at_feed, no_feed}
use Rattle.scheme.proofs.keys.split_line.Goals as goal

pub returns-in-Some-clause-line : goal.returns-in-Some-clause-line
returns-in-Some-clause-line c = (at_feed c.args.text.now c.in-Some.end (search rules) (search rules) (search rules)).0

pub returns-in-Some-clause-rest : goal.returns-in-Some-clause-rest
returns-in-Some-clause-rest c =
    let after = drop (c.in-Some.end + 1) c.args.text.now in
    take_all _ after (omega (arith, length-drop (c.in-Some.end + 1) c.args.text.now))
    ∙ (at_feed c.args.text.now c.in-Some.end (search rules) (search rules) (search rules)).1

pub returns-in-None-clause-line : goal.returns-in-None-clause-line
returns-in-None-clause-line c = (no_feed c.args.text.now (search rules)).0

pub returns-in-None-clause-rest : goal.returns-in-None-clause-rest
returns-in-None-clause-rest c = (no_feed c.args.text.now (search rules)).1
