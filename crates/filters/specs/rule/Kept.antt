-- "At most one serial, a character or quantity, and one weight, a quantity; neither may have a filter." "Filter: of the variables up to and
-- with its own, exactly one has the decoded text as its name, and that is an earlier logical; else, and on a serial or weight, 52 .. A
-- later variable with the name of a logical that has served as a filter is 52."
-- What this says of the variables of a definition, in these words.
use Rattle.std.specs.Prelude.{◌≡◌, ◌⊎◌, Bool, true, false, List, ◌∷◌, ℕ, zero, suc, ◌≤◌, ◌<◌}
use Rattle.survey.specs.rule.Survey.{KeptText}
use Rattle.survey.specs.rule.Table.{type_of}
use Rattle.xml_reading.specs.rule.Role.{XmlEntry, same_name}

-- row i of the variables
pub data At : List XmlEntry → ℕ → XmlEntry → Type 0 where
  here : {v : XmlEntry} {l : List XmlEntry} → At (v ∷ l) zero v
  there : {v w : XmlEntry} {l : List XmlEntry} {i : ℕ} → At l i v → At (w ∷ l) (suc i) v

abbrev pub name_of : XmlEntry → KeptText
name_of v = v.variable.name

abbrev pub entry_kind : XmlEntry → ℕ
entry_kind v = type_of v.variable.content

module _ (latin standard : Bool) (d : List ℕ) where
  -- row i filters a variable of this name and use behind `earlier`, by the text t
  pub record Filters (earlier : List XmlEntry) (name : KeptText) (usage : ℕ) (t : KeptText) (i : ℕ) : Type 0 where
    pub row : XmlEntry
    pub before : At earlier i row
    pub logical : entry_kind row ≡ 5
    pub named : same_name latin standard d t (name_of row) ≡ true
    pub only : (j : ℕ) (v : XmlEntry) → At earlier j v → same_name latin standard d t (name_of v) ≡ true → j ≡ i
    pub own : same_name latin standard d t name ≡ false
    pub unused : usage ≡ 0

  -- a variable that some text of the file filters by row i
  pub record Filtered (earlier : List XmlEntry) (v : XmlEntry) (i : ℕ) : Type 0 where
    pub text : KeptText
    pub filters : Filters earlier (name_of v) v.usage text i

  -- a variable behind `earlier`: its use is known, of a type that may have it, and new; its filter is one of those before it; its name is
  -- not that of a row that has served as one
  pub record Joins (earlier : List XmlEntry) (v : XmlEntry) : Type 0 where
    pub known : v.usage ≤ 2
    pub serial : v.usage ≡ 1 → (entry_kind v ≡ 3) ⊎ (entry_kind v ≡ 4)
    pub weight : v.usage ≡ 2 → entry_kind v ≡ 3
    pub first : 0 < v.usage → (j : ℕ) (w : XmlEntry) → At earlier j w → w.usage ≡ v.usage → ⊥
    pub filter : (i : ℕ) → v.filter ≡ suc i → Filtered earlier v i
    pub unserved : (j : ℕ) (w : XmlEntry) (i : ℕ) (row : XmlEntry) → At earlier j w → w.filter ≡ suc i → At earlier i row
        → same_name latin standard d (name_of v) (name_of row) ≡ false

-- ---- of a whole list
-- row i: "row number plus one of an earlier logical"
pub record Before (l : List XmlEntry) (i f : ℕ) : Type 0 where
  pub row : XmlEntry
  pub at : At l f row
  pub earlier : f < i
  pub logical : entry_kind row ≡ 5

pub record RowKept (l : List XmlEntry) (i : ℕ) (v : XmlEntry) : Type 0 where
  pub known : v.usage ≤ 2
  pub serial : v.usage ≡ 1 → (entry_kind v ≡ 3) ⊎ (entry_kind v ≡ 4)
  pub weight : v.usage ≡ 2 → entry_kind v ≡ 3
  pub use_unfiltered : 0 < v.usage → v.filter ≡ 0
  pub filter : (f : ℕ) → v.filter ≡ suc f → Before l i f

pub record Kept (l : List XmlEntry) : Type 0 where
  pub rows : (i : ℕ) (v : XmlEntry) → At l i v → RowKept l i v
  -- one serial (use 1), one weight (use 2)
  pub one : (i j : ℕ) (v w : XmlEntry) → At l i v → At l j w → 0 < v.usage → w.usage ≡ v.usage → i ≡ j
