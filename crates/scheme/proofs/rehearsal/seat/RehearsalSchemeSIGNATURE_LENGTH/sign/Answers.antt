use Rattle.std.proofs.Common.{◌≡◌, ℕ, ◌<◌, List, ◌++◌, length, Some, vec_items, sym, refl, ap, ◌∙◌, subst}
use lib.ListN.{length-map}
use Rattle.sha3.specs.Sponge.{sha3_512}
use Rattle.scheme.specs.declared.keys.Secret.{Secret}
use Rattle.scheme.specs.Keys.{keys_of}
use Rattle.scheme.specs.Rehearsal.{secret_at, right_for}
use Rattle.scheme.proofs.Members.{secret_at_lem, right_own}
use Rattle.scheme.proofs.rehearsal.seat.RehearsalSchemeSIGNATURE_LENGTH.sign.Goals as goal

abbrev bytes : Secret → List ℕ
bytes secret = secret.0

pub returns : goal.returns
returns c =
    let items : List Secret = vec_items c.args.self.now.keys.secrets in
    let ks : List (List ℕ) = keys_of c.args.self.now.keys in
    let m : ℕ = c.args.self.now.me in
    let x : List ℕ = c.args.message.now in
    let s : Secret = c.index.result.now in
    let within : m < length items = subst (λ (n : ℕ). m < n) c.args.self.now.keys.secrets.ok.0 c.args.self.now.seated in
    let there : m < length ks = subst (λ (n : ℕ). m < n) (sym (length-map items bytes)) within in
    let own : secret_at ks m ≡ bytes s = secret_at_lem items m s within c.index.ensures in
    let made : c.signature_by-signature.result ≡ sha3_512 (secret_at ks m ++ x)
    = c.signature_by-signature.ensures ∙ ap (λ (b : List ℕ). sha3_512 (b ++ x)) (sym own) in
    record {
      value = ap Some made;
      accepted = ap (right_for ks m x) made ∙ right_own ks m x there;
      said = c.with-self.ensures;
      keys = refl;
      me = refl;
      secret = refl;
    }
