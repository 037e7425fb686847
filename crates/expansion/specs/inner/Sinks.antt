-- What the walk does with a term. Nothing else in the walk knows a roll's form.
use Rattle.std.specs.Prelude.{ℕ, ◌+◌, ◌-◌, ◌^◌, ◌<◌, ◌≤◌, ◌≡◌, cond, List, [], ◌∷◌, ◌++◌, eqb, length, get_or, drop}
use Rattle.std.proofs.lemmas.List.Edits.{sets}
use Rattle.term.specs.Terms.{Term}
use Rattle.number.specs.Numbers.{bytes_of}
use Rattle.roll.specs.Bytes.{term_bytes, terms_bytes}
use Rattle.form2.specs.Bytes.{term_bytes2, terms_bytes2}
use Rattle.expansion.specs.declared.Path.{Path}
use Rattle.expansion.specs.inner.View.{path_prefactors, path_term}

-- what is done with a term: it is written in form 1 or in form 2, or measured in form 2 and not written
abbrev pub in_form1 : ℕ
in_form1 = 1

abbrev pub in_form2 : ℕ
in_form2 = 2

abbrev pub size2 : ℕ
size2 = 3

-- what is done, the place after what was done, the prefactors of the term before, and the lent bytes
pub record Sink : Type 0 where
  pub doing : ℕ
  pub place : ℕ
  pub earlier : List ℕ
  pub out : List ℕ

-- as the code holds it: five words, the last three as a path's, beside the lent bytes
unfoldable pub sink_of : List ℕ → List ℕ → Sink
sink_of words out = record { doing = get_or words 0 0; place = get_or words 1 0; earlier = path_prefactors (get_or words 2 0) (get_or words 3 0) (get_or words 4 0); out = out }

-- the bytes of a term and of terms in the form of a sink
unfoldable pub form_bytes : ℕ → List ℕ → Term → List ℕ
form_bytes doing earlier t = cond (eqb doing in_form1) (term_bytes t) (term_bytes2 earlier t)

unfoldable pub forms_bytes : ℕ → List ℕ → List Term → List ℕ
forms_bytes doing earlier ts = cond (eqb doing in_form1) (terms_bytes ts) (terms_bytes2 earlier ts)

-- bytes from a place on, unless they are only measured
unfoldable pub stored_in : ℕ → List ℕ → ℕ → List ℕ → List ℕ
stored_in doing out at bytes = cond (eqb doing size2) out (sets out at bytes)

-- with one term more, and with terms
unfoldable pub with_term : Sink → Term → Sink
with_term s t =
    record {
      doing = s.doing;
      place = s.place + length (form_bytes s.doing s.earlier t);
      earlier = t.prefactors;
      out = stored_in s.doing s.out s.place (form_bytes s.doing s.earlier t);
    }

unfoldable pub with_terms : Sink → List Term → Sink
with_terms s [] = s
with_terms s (t ∷ ts) = with_terms (with_term s t) ts

-- what the place stays below: the end of the lent bytes and one more, or what a word holds where nothing is written
unfoldable pub end_of : Sink → ℕ
end_of s = cond (eqb s.doing size2) (2 ^ 64) (length s.out + 1)

-- there is room for the bytes of terms, and the term before has no more prefactors than two words hold
pub record Room (s : Sink) (ts : List Term) : Type 0 where
  pub fits : (with_terms s ts).place < end_of s
  pub few : length s.earlier < 25

-- terms are taken
pub record Took (s : Sink) (ts : List Term) (r : Sink) : Type 0 where
  pub is : r ≡ with_terms s ts
  pub few : length r.earlier < 25

-- there is room for a term's bytes, and each of its numbers but the scale takes one
pub record EmitMay (p : Path) (s : Sink) : Type 0 where
  pub scale : p.scale < 2 ^ 32
  pub boys : p.boys < 128
  pub count : p.count < 25
  pub room : Room s (path_term p ∷ [])

-- the bytes of a term in form 2 whose numbers but the scale take one each; `same` of its prefactors are shared with the term before
unfoldable pub bytes_after : Path → ℕ → List ℕ
bytes_after p same = bytes_of p.scale ++ (p.boys ∷ same ∷ (p.count - same) ∷ drop same (path_term p).prefactors)

pub record RestMay2 (p : Path) (same at : ℕ) (out : List ℕ) : Type 0 where
  pub boys-small : p.boys < 128
  pub count_small : p.count < 25
  pub shares : same ≤ p.count
  pub room : at + 3 + (p.count - same) ≤ length out

pub record TermMay2 (p : Path) (same at : ℕ) (out : List ℕ) : Type 0 where
  pub scale : p.scale < 2 ^ 32
  pub boys : p.boys < 128
  pub count : p.count < 25
  pub shares : same ≤ p.count
  pub room : at + length (bytes_after p same) ≤ length out
