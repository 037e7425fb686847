-- 01, "Limits and refusal numbers", with the numbers of 02, Q-6: each limit once (D-39).
use Rattle.std.specs.Prelude.{ℕ, ◌*◌, ◌^◌}
use Rattle.kind.specs.declared.Limits.{Limits}

-- the order sum on each centre, and on the moment operator, and a shell's order
abbrev pub most_order : ℕ
most_order = 6

-- terms of a list
abbrev pub most_terms : ℕ
most_terms = 1048575

-- matrix size, from 1 to this
abbrev pub most_size : ℕ
most_size = 16

-- bytes of a roll that the listing takes
abbrev pub most_listed : ℕ
most_listed = 65536

-- centres that a request can name: A, B, C and D
abbrev pub most_centres : ℕ
most_centres = 4

-- the twelve orders of a request
abbrev pub request_orders : ℕ
request_orders = 3 * most_centres

-- L of any kind: the sum of all orders
abbrev pub most_l·any : ℕ
most_l·any = most_centres * most_order

-- 6^12: each step with a multiplier above 1 lowers two orders, so there are at most half of L of any kind, each at most the largest order
abbrev pub most_scale : ℕ
most_scale = most_order ^ (2 * most_order)

-- the places in which a prefactor table is handed out: as many as the largest table has, Coulomb's
abbrev pub table_places : ℕ
table_places = 23

abbrev pub limits : Limits
limits = record { order = most_order; terms = most_terms; scale = most_scale; size = most_size; listed = most_listed; request = request_orders; prefactors = most_l·any; table = table_places }
