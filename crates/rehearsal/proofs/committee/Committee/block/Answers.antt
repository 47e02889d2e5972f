use Rattle.std.proofs.Common.{ℕ, List, Some, None, Option, Vec, vec_items, subst}
use Rattle.std.proofs.lemmas.Result.{IfOk-weaker}
use Rattle.std.specs.declared.alloc.Global.{Global}
use Rattle.book.specs.Books.{memory}
use Rattle.lines.specs.Left.{left}
use Rattle.rehearsal.specs.Answering.{LoadIs, Introduced}
use Rattle.rehearsal.specs.Commands.{described}
use Rattle.rehearsal.specs.Scenes.{Scene}
use Rattle.rehearsal.specs.Played.{Plays, Named}
use Rattle.rehearsal.proofs.Introducing.{introduced}
use Rattle.rehearsal.proofs.committee.Committee.block.Goals as goal

pub returns-clause-plays : goal.returns-clause-plays
returns-clause-plays c =
    let line = c.args.line in
    let load = vec_items c.in-Some.load in
    let l = memory c.args.self.now.book in
    let after = c.name_block.new.self in
    let means : LoadIs line.load.now load =
    subst (λ (o : Option (Vec ℕ Global)). elim o as (λ _. Type 0) [ Some v ↦ LoadIs line.load.now (vec_items v) | None ↦ ((bytes : List ℕ) → LoadIs line.load.now bytes → ⊥) ])
    c.in-Some.is c.in_ok-load.ensures in
    IfOk-weaker c.name_block.result
    (λ o. (s : Scene) → Plays s c.args.self.now → Named l s line.word.now line.author line.round c.as_slice.result.now (left line.parents) o after)
    (λ o. (s : Scene) → Plays s c.args.self.now → Introduced l s (described line) o after)
    (λ o named s p. introduced l s (described line) load o after means
    (subst (λ (bytes : List ℕ). Named l s line.word.now line.author line.round bytes (left line.parents) o after) c.as_slice.ensures.value (named s p)))
    c.name_block.ensures.plays
