use Rattle.std.proofs.Common.{◌≡◌, ℕ, ◌<◌, List, length, get_or, vec_items, sym, ap, ◌∙◌, subst}
use lib.ListN.{length-map}
use Rattle.scheme.specs.declared.keys.Secret.{Secret}
use Rattle.scheme.specs.Bytes.{same}
use Rattle.scheme.specs.Keys.{keys_of}
use Rattle.scheme.specs.Rehearsal.{secret_at, right_for}
use Rattle.scheme.proofs.Members.{secret_at_lem, right_there, right_long}
use Rattle.scheme.proofs.rehearsal.seat.RehearsalSchemeSIGNATURE_LENGTH.check.Goals as goal

abbrev bytes : Secret → List ℕ
bytes secret = secret.0

pub returns-in-Some : goal.returns-in-Some
returns-in-Some c =
    let items : List Secret = vec_items c.args.self.now.keys.secrets in
    let ks : List (List ℕ) = keys_of c.args.self.now.keys in
    let m : ℕ = c.args.member in
    let x : List ℕ = c.args.message.now in
    let given : List ℕ = c.args.signature.now in
    let s : Secret = c.in-Some.secret.now in
    let found = c.in-Some.ensures.lookup in
    let items-are = c.deref.ensures.value in
    let within : m < length items = subst (λ (xs : List Secret). m < length xs) items-are found.3.0 in
    let there : m < length ks = subst (λ (n : ℕ). m < n) (sym (length-map items bytes)) within in
    let own : secret_at ks m ≡ bytes s = secret_at_lem items m s within (found.1 ∙ ap (λ (xs : List Secret). get_or xs m s) items-are) in
    let value : c.equal.result ≡ right_for ks m x given =
    c.equal.ensures ∙ ap (same given) c.signature_by.ensures ∙ right_there ks m x given (bytes s) there own in
    record {
      value = value;
      long = λ e. right_long ks m x given (sym value ∙ e);
      there = λ e. there;
    }
