-- Inside the crate: the request that the first bytes name, and the header of a request's roll.
use Rattle.std.specs.Prelude.{ℕ, ◌+◌, ◌%◌, cond, List, eqb, length, get_or, Option, None}
use Rattle.laws.specs.Total.{total}
use Rattle.kind.specs.declared.Kind.{Kind}
use Rattle.kind.specs.Kinds.{kind_of, number_of, orders_of}
use Rattle.number.specs.Numbers.{length_of}
use Rattle.roll.specs.declared.header.Opened.{Opened}
use Rattle.salvaging.specs.declared.forms.Form.{Form}
use Rattle.salvaging.specs.declared.forms.Form.TheVariants.{One, Two}

-- the header of a request's roll: its numbers but the count take one byte each
abbrev pub request_opened : Kind → List ℕ → ℕ → Opened
request_opened k orders count =
    record {
      cursor = record { place = 1 + orders_of k + length_of count; left = count; kind = number_of k; l = total orders };
      orders = orders;
    }

-- the kind's number in the first byte of a form
abbrev pub number_in : Form → ℕ → ℕ
number_in One n = n
number_in Two n = n % 16

-- the kind that the first byte names
abbrev pub first_named : Form → List ℕ → Option Kind
first_named f s = cond (eqb (length s) 0) None (kind_of (number_in f (get_or s 0 0)))
