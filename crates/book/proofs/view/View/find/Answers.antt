use Rattle.std.proofs.Common.{◌≡◌, ◌≢◌, refl, arith, rules, tests}
use Rattle.std.proofs.lemmas.Iterator.{first_from_find, YieldsList-from_range}
use Rattle.book.specs.Content.{book_of}
use Rattle.book.specs.Meeting.{shown}
use Rattle.book.specs.Views.{held}
use Rattle.book.proofs.Finding.{found}
use Rattle.book.proofs.view.View.find.Goals as goal

pub returns : goal.returns
returns c =
    let blocks = held c.args.self.now in
    let k = shown c.args.block in
    found blocks k c.len.result c.find.result c.len.ensures
    (first_from_find _ _ _ (λ n. book_of blocks n ≡ k) (λ n. book_of blocks n ≢ k) c.find.ensures.ran
    (YieldsList-from_range 0 c.len.result c.len.result refl (omega arith)) (λ n q called. search (rules, tests)) (λ n q called. search (rules, tests)))
