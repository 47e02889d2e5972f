use Rattle.std.proofs.Common.{◌≡◌, ℕ, List, Some, None, vec_items, sym, refl, ap, ◌∙◌, subst, Option}
use Rattle.std.proofs.Math.Logic.{∥∥₁_map}
use Rattle.std.specs.Option.{option_map}
use Rattle.book.specs.Books.{memory}
use Rattle.book.specs.Meeting.{block_of}
use Rattle.lines.specs.Left.{left}
use Rattle.rehearsal.specs.Played.{Meets, CantBeIn, parts}
use Rattle.rehearsal.specs.Scenes.{with_blocks}
use Rattle.rehearsal.specs.Words.{name_in, names_in}
use Rattle.rehearsal.proofs.Setting.{plays_word, plays_added, no_name}
use Rattle.rehearsal.proofs.committee.Committee.name_block.Goals as goal

pub returns-in_default-2-clause-plays : goal.returns-in_default-2-clause-plays
returns-in_default-2-clause-plays c s p =
    let names = vec_items c.in-Some.names in
    let load = c.args.load.now in
    let l = memory c.args.self.now.book in
    let told : Meets l s (block_of c.args.author c.args.round names load) None c.meet.new.self =
    subst (λ (o : Option ℕ). Meets l s (block_of c.args.author c.args.round names load) o c.meet.new.self) c.in_default-2.is
    (subst (λ (ns : List ℕ). Meets l s (block_of c.args.author c.args.round ns load) c.in_ok-name.field-0 c.meet.new.self) c.as_slice.ensures.value
    (c.in_ok-name.ensures.plays s p)) in
    let are : names_in (left c.args.parents) s.words ≡ Some names = ap (names_in (left c.args.parents)) (sym p.words) ∙ sym c.in_ok-names.ensures ∙ ap (option_map vec_items) c.in-Some.is in (
      λ names' can.
          let same : names ≡ names' = let given = can.parents_are in cc in
          subst (λ (ns : List ℕ). CantBeIn l s.blocks (block_of c.args.author c.args.round ns load)) same told.0,
      told.1,
    )

pub invariant_of-self : goal.invariant_of-self
invariant_of-self c = record {
  played = ∥∥₁_map c.args.self.now.played (λ w.
      let l = memory c.args.self.now.book in
      let k = block_of c.args.author c.args.round c.as_slice.result.now c.args.load.now in
      let told : Meets l w.0 k (Some c.in-Some-2.name) c.meet.new.self =
      subst (λ (o : Option ℕ). Meets l w.0 k o c.meet.new.self) c.in-Some-2.is (c.in_ok-name.ensures.plays w.0 w.1) in
      plays_added (with_blocks told.0 w.0) (parts c.meet.new.self) (record (parts c.meet.new.self) { words = c.add.new.self }) c.args.word.now c.in-Some-2.name
      told.2 told.1.named.there refl refl refl refl refl c.add.result c.add.ensures.added c.add.ensures.else_same);
}

pub returns-clause-plays : goal.returns-clause-plays
returns-clause-plays c s p =
    let names = vec_items c.in-Some.names in
    let load = c.args.load.now in
    let l = memory c.args.self.now.book in
    let told : Meets l s (block_of c.args.author c.args.round names load) (Some c.in-Some-2.name) c.meet.new.self =
    subst (λ (o : Option ℕ). Meets l s (block_of c.args.author c.args.round names load) o c.meet.new.self) c.in-Some-2.is
    (subst (λ (ns : List ℕ). Meets l s (block_of c.args.author c.args.round ns load) c.in_ok-name.field-0 c.meet.new.self) c.as_slice.ensures.value
    (c.in_ok-name.ensures.plays s p)) in (
      names,
      record {
        unused = ap (name_in c.args.word.now) (sym p.words) ∙ sym c.name_of.ensures ∙ no_name c.name_of.result c.if-is_some.ensures;
        author_small = c.if-author-ge-AUTHORS.false;
        round_small = c.if-round-ge-ROUNDS.false;
        parents_are = ap (names_in (left c.args.parents)) (sym p.words) ∙ sym c.in_ok-names.ensures ∙ ap (option_map vec_items) c.in-Some.is;
      },
      told.0,
      told.1,
      plays_word (with_blocks told.0 s) (parts c.meet.new.self) (record (parts c.meet.new.self) { words = c.add.new.self }) c.args.word.now c.in-Some-2.name told.2
          told.1.named.there refl refl refl refl refl c.in_ok-add.ensures.added,
    )
