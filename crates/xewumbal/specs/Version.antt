-- The version that xew_version tells: that of the header's structs, meanings and answers (D-85).
use Rattle.std.specs.Prelude.{ℕ}

abbrev pub version : ℕ
version = 2
