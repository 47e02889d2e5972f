-- That the bytes of a line are taken off the front of those that are to come, one after the other. Assumes nothing.
use Rattle.std.proofs.Common.{◌≡◌, ℕ, ◌<◌, ◌≤◌, Bool, true, false, not, eqb, List, [], ◌∷◌, ◌++◌, length, Some, None, Option, Ok, Err, Result, Bor, inl, inr, refl, sym, ap, ◌∙◌, subst, append_assoc, arith}
use Rattle.std.specs.Bool.{MatchBool}
use Rattle.std.specs.Io.KnownBytes.{Keeps as StayKnown, Consumes, IsAtEnd}
use Rattle.std.proofs.lemmas.Bool.{eqb-true, eqb-false}
use Rattle.std.specs.Result.{MatchResult}
use Rattle.lines.specs.declared.buffer.TooLong.{TooLong}
use Rattle.lines.specs.declared.buffer.LineBuffer.{LineBuffer}
use Rattle.lines.specs.Words.{has}
use Rattle.lines.specs.Buffers.{longest, Keeps}
use Rattle.lines.specs.Reading.{line_end, TakesLine, TakesPart, GivesNext}
use Rattle.lines.proofs.Cuts.{has_push}

pub consumes_none : (a : Option (List ℕ)) → Consumes a a []
consumes_none None = tt
consumes_none (Some xs) = refl

pub consumes_more : (a b c : Option (List ℕ)) (xs ys : List ℕ) → Consumes a b xs → Consumes b c ys → Consumes a c (xs ++ ys)
consumes_more None b c xs ys p q = tt
consumes_more (Some us) None c xs ys p q = absurd p
consumes_more (Some us) (Some vs) None xs ys p q = absurd q
consumes_more (Some us) (Some vs) (Some ws) xs ys p q = p ∙ ap (λ l. xs ++ l) q ∙ sym (append_assoc xs ys ws)

pub consumes_kept : (a b c : Option (List ℕ)) (xs : List ℕ) → Consumes a b xs → StayKnown b c → Consumes a c xs
consumes_kept None b c xs p q = tt
consumes_kept (Some us) None c xs p q = absurd p
consumes_kept (Some us) (Some vs) None xs p q = absurd q
consumes_kept (Some us) (Some vs) (Some ws) xs p q = p ∙ ap (λ l. xs ++ l) (sym q)

-- where no byte was taken, and none is left, none was to come
pub none_came : (a b : Option (List ℕ)) → Consumes a b [] → IsAtEnd b → IsAtEnd a
none_came None b p q = tt
none_came (Some us) None p q = absurd p
none_came (Some us) (Some vs) p q = p ∙ q

-- so much of a line was taken, and the buffer keeps it
pub record Reads (old new : Option (List ℕ)) (buffer : LineBuffer) : Type 0 where
  pub line : List ℕ
  pub keeps : Keeps buffer line
  pub clean : has line_end line ≡ false
  pub taken : Consumes old new line

pub reads_none : (a : Option (List ℕ)) (buffer : LineBuffer) → Keeps buffer [] → Reads a a buffer
unfolding has
reads_none a buffer k = record { line = []; keeps = k; clean = refl; taken = consumes_none a }

-- one more byte that isn't a line feed
pub reads_more : (a b c : Option (List ℕ)) (old new : LineBuffer) (byte : ℕ) → Reads a b old → Consumes b c (byte ∷ []) →
    ((line : List ℕ) → Keeps old line → Keeps new (line ++ (byte ∷ []))) → (byte ≡ line_end → ⊥) → Reads a c new
reads_more a b c old new byte r one keeps ne = record {
  line = r.line ++ (byte ∷ []);
  keeps = keeps r.line r.keeps;
  clean = has_push line_end r.line byte r.clean ne;
  taken = consumes_more a b c r.line (byte ∷ []) r.taken one;
}

pub part_read : (a b c : Option (List ℕ)) (buffer : LineBuffer) → Reads a b buffer → StayKnown b c → TakesPart a c
part_read a b c buffer r kept = record { part = r.line; clean = r.clean; taken = consumes_kept a b c r.line r.taken kept }

pub line_read : (a b c : Option (List ℕ)) (buffer : LineBuffer) (byte : ℕ) (r : Reads a b buffer) → Consumes b c (byte ∷ []) → byte ≡ line_end → TakesLine a c r.line
line_read a b c buffer byte r one e = record {
  clean = r.clean;
  taken = inl (consumes_more a b c r.line (line_end ∷ []) r.taken (subst (λ x. Consumes b c (x ∷ [])) e one));
}

pub last_read : (a b c : Option (List ℕ)) (buffer : LineBuffer) (r : Reads a b buffer) → StayKnown b c → IsAtEnd c → 0 < length r.line → TakesLine a c r.line
last_read a b c buffer r kept end some = record { clean = r.clean; taken = inr (consumes_kept a b c r.line r.taken kept, end, some) }

-- a byte that there was no memory for
pub part_lost : (a b c : Option (List ℕ)) (buffer : LineBuffer) (byte : ℕ) → Reads a b buffer → Consumes b c (byte ∷ []) → (byte ≡ line_end → ⊥) → TakesPart a c
part_lost a b c buffer byte r one ne = record {
  part = r.line ++ (byte ∷ []);
  clean = has_push line_end r.line byte r.clean ne;
  taken = consumes_more a b c r.line (byte ∷ []) r.taken one;
}

no_byte : (xs : List ℕ) → length xs ≡ 0 → xs ≡ []
no_byte [] e = refl
no_byte (x ∷ xs) e = absurd (omega arith)

-- at the end of the input
pub end_read : (a b c : Option (List ℕ)) (buffer : LineBuffer) (r : Reads a b buffer) → StayKnown b c → IsAtEnd c → (none : Bool) → none ≡ eqb (length r.line) 0 →
    MatchBool (not none) ((line : List ℕ) × Keeps buffer line × TakesLine a c line) (IsAtEnd a × IsAtEnd c)
end_read a b c buffer r kept end true e =
    let taken = consumes_kept a b c r.line r.taken kept in
    let empty = no_byte r.line (eqb-true (length r.line) 0 (sym e)) in
    (none_came a c (subst (Consumes a c) empty taken) end, end)
end_read a b c buffer r kept end false e =
    let ne = eqb-false (length r.line) 0 (sym e) in (r.line, r.keeps, last_read a b c buffer r kept end (omega arith))

-- what the buffer says of the line that was read
pub gives_line : (a b : Option (List ℕ)) (r : Result (Bor (List ℕ)) TooLong) (line : List ℕ) → TakesLine a b line →
    MatchResult r (λ bytes. (bytes.now ≡ line) × (length line ≤ longest)) (λ _. longest < length line) → GivesNext a b (Some r)
gives_line a b (Ok bytes) line t told = rw told.0 (t, told.1)
gives_line a b (Err e) line t told = (line, t, told)
