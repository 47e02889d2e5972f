use Rattle.std.proofs.Common.{◌≡◌, [], ◌∷◌, ◌++◌, vec_items, ap, ◌∙◌, append_assoc}
use Rattle.sha3.specs.Sponge.{sha3_256}
use Rattle.lines.specs.Hex.{hex_of}
use Rattle.digest.specs.Answer.{digests_of}
use Rattle.digest.proofs.answer.digests.Goals as goal

pub returns : goal.returns
unfolding digests_of
returns c =
    let m = c.args.message.now in
    let first : vec_items c.append.new.digits ≡ hex_of (sha3_256 m)
    = c.in_ok-append.ensures
    ∙ ap (λ t. t ++ hex_of c.sha3_256.result) c.new-text.ensures.items
    ∙ ap hex_of c.sha3_256.ensures in
    c.in_ok-append-2.ensures
    ∙ ap (λ t. t ++ hex_of c.sha3_512.result) (c.in_ok-push.ensures.items ∙ ap (λ t. t ++ 32 ∷ []) first)
    ∙ append_assoc (hex_of (sha3_256 m)) (32 ∷ []) (hex_of c.sha3_512.result)
    ∙ ap (λ t. hex_of (sha3_256 m) ++ 32 ∷ hex_of t) c.sha3_512.ensures
