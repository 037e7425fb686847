-- Inside the crate: what is written in each form.
use Rattle.std.specs.Prelude.{ℕ, ◌+◌, List}
use Rattle.kind.specs.Kinds.{number_of}
use Rattle.kind.specs.declared.Kind.{Kind}
use Rattle.term.specs.Terms.{Term}
use Rattle.roll.specs.Bytes.{term_bytes, terms_bytes}
use Rattle.form2.specs.Bytes.{form_two, term_bytes2, terms_bytes2}
use Rattle.salvaging.specs.declared.forms.Form.{Form}
use Rattle.salvaging.specs.declared.forms.Form.TheVariants.{One, Two}

-- the number that a roll begins with
abbrev pub first_in : Form → Kind → ℕ
first_in One k = number_of k
first_in Two k = form_two + number_of k

-- a term, and terms, behind a term with the prefactors `earlier`
abbrev pub term_bytes_in : Form → List ℕ → Term → List ℕ
term_bytes_in One earlier t = term_bytes t
term_bytes_in Two earlier t = term_bytes2 earlier t

abbrev pub terms_bytes_in : Form → List ℕ → List Term → List ℕ
terms_bytes_in One earlier ts = terms_bytes ts
terms_bytes_in Two earlier ts = terms_bytes2 earlier ts
