-- `lines::append_value` meets its contract: the letter of the answer, and its value behind it.
use mathlib.Core.Path.{◌≡◌, ap}
use mathlib.Core.List.{[], ◌∷◌}
use Prim.Native.Nat.{ℕ}
use native.Mathlib.Omega.{arith}
use borrow.Author.Rules.{rules}
use mir.Syntax.{w64}
use mir.Val.{to_z, of_z}
use lib.ListN.{drop, length-take}
use Rattle.lines.specs.rule.Text.{number_text}
use Rattle.lines.specs.Appended.{then, keeps_room, as_text, number_few}
use Rattle.lines.specs.Lines.{Listable, number_listed, set_listed, text_listed, missing_text, number_text_lem, set_text, text_text}
use Rattle.lines.specs.Lines.{truth_text}
use Rattle.lines.proofs.append_value.Goals as goal
use Rattle.lines.proofs.append_value.Goals.{In-Number}

-- the number is read back from its bits as it is
back : (c : In-Number) → to_z w64 (of_z w64 c.in-Number.z) ≡ c.in-Number.z
back c = search rules

pub append_number-requires : goal.append_number-requires
append_number-requires c =
    let s = c.requires in
    let b = c.append_between-end.ensures in record {
      tens = s.tens;
      z_bound = (
        rw (back (goal.at.append_number-requires c).In-Number) (number_listed _ _ s.listable.0 c.in-Number.is),
        omega (arith, s.listable.1, b.ends, keeps_room b),
      );
    }

pub append_codes-requires : goal.append_codes-requires
append_codes-requires c =
    let s = c.requires in
    let b = c.append_between-end-in-Set.ensures in record {
      tens = s.tens;
      codes = (
        set_listed _ _ s.listable.0 c.in-Set.is,
        omega (arith, s.listable.1, b.ends, keeps_room b),
      );
    }

pub append_text-requires : goal.append_text-requires
append_text-requires c =
    let s = c.requires in
    let b = c.append_between-end-in-Text.ensures in
    let l = text_listed _ _ s.listable.0 c.in-Text.is in
    (l.1, omega (arith, l.0, s.listable.1, b.ends, keeps_room b))

pub returns-in-Missing : goal.returns-in-Missing
returns-in-Missing c =
    let b = c.append_letter.ensures in record {
      appended = as_text b (missing_text _ _ _ c.in-Missing.is);
      upper_bound = omega (arith, b.ends);
    }

pub returns-in-Number : goal.returns-in-Number
returns-in-Number c =
    let b = c.append_between-end.ensures in
    let m = as_text c.append_number.ensures (ap number_text (back (goal.at.returns-in-Number c).In-Number)) in record {
      appended = as_text (then b m) (number_text_lem _ _ _ c.in-Number.is);
      upper_bound = omega (
        arith,
        b.ends,
        m.ends,
        number_few c.in-Number.z,
      );
    }

pub returns-in-Set : goal.returns-in-Set
returns-in-Set c =
    let b = c.append_between-end-in-Set.ensures in
    let m = c.append_codes.ensures in record {
      appended = as_text (then b m.appended) (set_text _ _ _ c.in-Set.is);
      upper_bound = omega (arith, b.ends, m.upper_bound);
    }

pub returns-in-Text : goal.returns-in-Text
returns-in-Text c =
    let b = c.append_between-end-in-Text.ensures in
    let m = c.append_text.ensures in
    let e = c.in-Text.is in
    let l = text_listed _ _ c.requires.listable.0 e in
    let n = length-take c.in-Text.n (drop c.in-Text.p c.args.bytes.now) in record {
      appended = as_text (then b m) (text_text _ _ _ e);
      upper_bound = omega (arith, b.ends, m.ends, l.0);
    }

pub returns-in-Truth : goal.returns-in-Truth
returns-in-Truth c =
    let b = c.append_between-end-in-Truth.ensures in
    let m = as_text c.append_byte.ensures (ap (λ (x : ℕ). x ∷ []) c.bit_of.ensures) in record {
      appended = as_text (then b m) (truth_text _ _ _ c.in-Truth.is);
      upper_bound = omega (arith, b.ends, m.ends);
    }

pub returns-in-BadTable : goal.returns-in-BadTable
unfolding Listable
returns-in-BadTable c = let l = rw c.in-BadTable.is at c.requires.listable.0 in absurd l

pub returns-in-NoRow : goal.returns-in-NoRow
unfolding Listable
returns-in-NoRow c = let l = rw c.in-NoRow.is at c.requires.listable.0 in absurd l

pub returns-in-ShortRecord : goal.returns-in-ShortRecord
unfolding Listable
returns-in-ShortRecord c = let l = rw c.in-ShortRecord.is at c.requires.listable.0 in absurd l

pub returns-in-Illegal : goal.returns-in-Illegal
unfolding Listable
returns-in-Illegal c = let l = rw c.in-Illegal.is at c.requires.listable.0 in absurd l

pub returns-in-ShortList : goal.returns-in-ShortList
unfolding Listable
returns-in-ShortList c = let l = rw c.in-ShortList.is at c.requires.listable.0 in absurd l
