-- `texts::copy` meets its contract.
use mathlib.Core.Path.{refl}
use mathlib.Core.List.{List}
use Prim.Native.Nat.{ℕ}
use native.Mathlib.Omega.{arith}
use lib.IntN.{ℤ}
use Rattle.marks.specs.declared.Inside.{Inside}
use Rattle.texts.specs.Measured.{Copied}
use Rattle.texts.proofs.copy.Goals as goal

-- nothing copied
stays : (d : List ℕ) (s : Inside) (n k : ℕ) (list : List ℤ) → Copied d s n k list list (record { next = n; count = k })
stays d s n k list = record { same_left = refl; same_count = refl; same_room = refl; ahead = omega arith }

pub copy_plain-requires : goal.copy_plain-requires
copy_plain-requires c = record {
  classes = c.requires.classes;
  n_in_bounds = rw c.in-Plain.is at c.requires.n_in_bounds;
}

pub copy_pairs-requires : goal.copy_pairs-requires
copy_pairs-requires c = record {
  classes = c.requires.classes;
  n_in_bounds = rw c.in-Pair.is at c.requires.n_in_bounds;
}

pub returns-in-Plain : goal.returns-in-Plain
returns-in-Plain c = rw c.in-Plain.is c.copy_plain.ensures

pub returns-in-Pair : goal.returns-in-Pair
returns-in-Pair c = rw c.in-Pair.is c.copy_pairs.ensures

pub shape_of-list-in-Plain : goal.shape_of-list-in-Plain
shape_of-list-in-Plain c = c.copy_plain.ensures.same_room

pub returns-in-Opened : goal.returns-in-Opened
returns-in-Opened c = stays _ _ _ _ _

pub returns-in-Shut : goal.returns-in-Shut
returns-in-Shut c = stays _ _ _ _ _

pub returns-in-Ell : goal.returns-in-Ell
returns-in-Ell c = stays _ _ _ _ _

pub shape_of-list-in-Pair : goal.shape_of-list-in-Pair
shape_of-list-in-Pair c = c.copy_pairs.ensures.same_room

pub returns-in-Low : goal.returns-in-Low
returns-in-Low c = stays _ _ _ _ _
