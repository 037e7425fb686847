-- 01, "Numbers": the five prefactor tables, `prefac` of the five get_ functions of os86.rs. Each entry stands beside its number;
-- that no number is left out is a law of proofs/Numbered.antt.
use Rattle.std.specs.Prelude.{ℕ, List, [], ◌∷◌, Float}
use Rattle.std.specs.Float.Ieee.{neg}
use Rattle.kind.specs.declared.Kind.{Kind}
use Rattle.kind.specs.declared.Kind.TheVariants.{Overlap, Kinetic, Nuclear, Moment, Coulomb}
use Rattle.geometry.specs.declared.Centre.{Centre}
use Rattle.geometry.specs.declared.Point.{Point}
use Rattle.geometry.specs.Floats.{◌⊕◌, ◌⊖◌, ◌⊗◌, ◌⊘◌, half, two}
use Rattle.geometry.specs.Geometry.{z_of, e_of, rp_of, rw_of, rho_of}

pub record Entry : Type 0 where
  pub number : ℕ
  pub value : Float

infix 10 ◌⇒◌
abbrev pub ◌⇒◌ : ℕ → Float → Entry
n ⇒ x = record { number = n; value = x }

abbrev pub values : List Entry → List Float
values [] = []
values (e ∷ es) = e.value ∷ values es

-- kind 0
abbrev pub overlap_table : Point → Float → Centre → Centre → List Entry
overlap_table rp z a b =
    (0 ⇒ rp.x ⊖ a.x)
    ∷ (1 ⇒ rp.x ⊖ b.x)
    ∷ (2 ⇒ rp.y ⊖ a.y)
    ∷ (3 ⇒ rp.y ⊖ b.y)
    ∷ (4 ⇒ rp.z ⊖ a.z)
    ∷ (5 ⇒ rp.z ⊖ b.z)
    ∷ (6 ⇒ half ⊘ z)
    ∷ (7 ⇒ half ⊘ z)
    ∷ []

-- kind 1 (D-24)
abbrev pub kinetic_table : Point → Float → Float → Centre → Centre → List Entry
kinetic_table rp z e a b =
    (0 ⇒ rp.x ⊖ a.x)
    ∷ (1 ⇒ rp.x ⊖ b.x)
    ∷ (2 ⇒ rp.y ⊖ a.y)
    ∷ (3 ⇒ rp.y ⊖ b.y)
    ∷ (4 ⇒ rp.z ⊖ a.z)
    ∷ (5 ⇒ rp.z ⊖ b.z)
    ∷ (6 ⇒ half ⊘ z)
    ∷ (7 ⇒ half ⊘ z)
    ∷ (8 ⇒ two ⊗ e)
    ∷ (9 ⇒ neg e ⊘ a.exponent)
    ∷ (10 ⇒ neg e ⊘ b.exponent)
    ∷ []

-- kind 2
abbrev pub nuclear_table : Point → Float → Centre → Centre → Centre → List Entry
nuclear_table rp z a b c =
    (0 ⇒ rp.x ⊖ a.x)
    ∷ (1 ⇒ rp.x ⊖ b.x)
    ∷ (2 ⇒ rp.y ⊖ a.y)
    ∷ (3 ⇒ rp.y ⊖ b.y)
    ∷ (4 ⇒ rp.z ⊖ a.z)
    ∷ (5 ⇒ rp.z ⊖ b.z)
    ∷ (6 ⇒ neg rp.x ⊕ c.x)
    ∷ (7 ⇒ neg rp.y ⊕ c.y)
    ∷ (8 ⇒ neg rp.z ⊕ c.z)
    ∷ (9 ⇒ half ⊘ z)
    ∷ (10 ⇒ neg half ⊘ z)
    ∷ []

-- kind 3
abbrev pub moment_table : Point → Float → Centre → Centre → Centre → List Entry
moment_table rp z a b c =
    (0 ⇒ rp.x ⊖ a.x)
    ∷ (1 ⇒ rp.x ⊖ b.x)
    ∷ (2 ⇒ rp.y ⊖ a.y)
    ∷ (3 ⇒ rp.y ⊖ b.y)
    ∷ (4 ⇒ rp.z ⊖ a.z)
    ∷ (5 ⇒ rp.z ⊖ b.z)
    ∷ (6 ⇒ rp.x ⊖ c.x)
    ∷ (7 ⇒ rp.y ⊖ c.y)
    ∷ (8 ⇒ rp.z ⊖ c.z)
    ∷ (9 ⇒ half ⊘ z)
    ∷ (10 ⇒ half ⊘ z)
    ∷ (11 ⇒ half ⊘ z)
    ∷ []

-- kind 4 (D-24)
abbrev pub coulomb_table : Point → Point → Point → Float → Float → Float → Centre → Centre → Centre → Centre → List Entry
coulomb_table rp rq rw z n rho a b c d =
    (0 ⇒ rp.x ⊖ a.x)
    ∷ (1 ⇒ rp.x ⊖ b.x)
    ∷ (2 ⇒ rq.x ⊖ c.x)
    ∷ (3 ⇒ rq.x ⊖ d.x)
    ∷ (4 ⇒ rw.x ⊖ rp.x)
    ∷ (5 ⇒ rw.x ⊖ rq.x)
    ∷ (6 ⇒ rp.y ⊖ a.y)
    ∷ (7 ⇒ rp.y ⊖ b.y)
    ∷ (8 ⇒ rq.y ⊖ c.y)
    ∷ (9 ⇒ rq.y ⊖ d.y)
    ∷ (10 ⇒ rw.y ⊖ rp.y)
    ∷ (11 ⇒ rw.y ⊖ rq.y)
    ∷ (12 ⇒ rp.z ⊖ a.z)
    ∷ (13 ⇒ rp.z ⊖ b.z)
    ∷ (14 ⇒ rq.z ⊖ c.z)
    ∷ (15 ⇒ rq.z ⊖ d.z)
    ∷ (16 ⇒ rw.z ⊖ rp.z)
    ∷ (17 ⇒ rw.z ⊖ rq.z)
    ∷ (18 ⇒ half ⊘ z)
    ∷ (19 ⇒ half ⊘ n)
    ∷ (20 ⇒ neg half ⊗ rho ⊘ (z ⊗ z))
    ∷ (21 ⇒ neg half ⊗ rho ⊘ (n ⊗ n))
    ∷ (22 ⇒ half ⊘ (z ⊕ n))
    ∷ []

unfoldable pub entries_of : Kind → Centre → Centre → Centre → Centre → List Entry
entries_of Overlap a b c d = overlap_table (rp_of a b) (z_of a b) a b
entries_of Kinetic a b c d = kinetic_table (rp_of a b) (z_of a b) (e_of a b) a b
entries_of Nuclear a b c d = nuclear_table (rp_of a b) (z_of a b) a b c
entries_of Moment a b c d = moment_table (rp_of a b) (z_of a b) a b c
entries_of Coulomb a b c d = coulomb_table (rp_of a b) (rp_of c d) (rw_of a b c d) (z_of a b) (z_of c d) (rho_of a b c d) a b c d

unfoldable pub prefac : Kind → Centre → Centre → Centre → Centre → List Float
prefac k a b c d = values (entries_of k a b c d)
