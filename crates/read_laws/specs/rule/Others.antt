-- CHARACTER, LOGICAL and spreads in the paper's own words, both ways.
use Rattle.std.specs.Prelude.{◌≡◌, Bool, true, List, [], ◌∷◌, ◌++◌, ℕ, suc, ◌≤◌, ℤ, pos, take, drop}
use Rattle.fields.specs.rule.Field.{is_member, rising_from}
use Rattle.read_laws.specs.rule.Forms.{Spaces, CodeForm}

-- ---- CHARACTER
-- a text's bytes: the text, which ends in no space, and spaces
pub record TextForm (s x : List ℕ) : Type 0 where
  pub front : List ℕ
  pub last : ℕ
  pub gap : List ℕ
  pub ends : x ≡ front ++ (last ∷ [])
  pub made : s ≡ x ++ gap
  pub no_space : last ≡ 32 → ⊥
  pub blank_gap : Spaces gap

-- ---- a spread
-- a subfield is spaces, or says zero, or says a legal number
pub data EntryForm (ok : ℤ → Bool) (x : List ℕ) : Type 0 where
  unused : Spaces x → EntryForm ok x
  zero_entry : CodeForm x (pos 0) → EntryForm ok x
  entry : (z : ℤ) → CodeForm x z → ok z ≡ true → EntryForm ok x

-- each of n subfields of w bytes
pub data Entries (ok : ℤ → Bool) (w : ℕ) : ℕ → List ℕ → Type 0 where
  done : {s : List ℕ} → Entries ok w 0 s
  next : {n : ℕ} {s : List ℕ} → EntryForm ok (take w s) → Entries ok w n (drop w s) → Entries ok w (suc n) s

-- some of them says c
pub data SomeSays (c : ℤ) (w : ℕ) : ℕ → List ℕ → Type 0 where
  here : {n : ℕ} {s : List ℕ} → CodeForm (take w s) c → SomeSays c w (suc n) s
  there : {n : ℕ} {s : List ℕ} → SomeSays c w n (drop w s) → SomeSays c w (suc n) s

-- A SPREAD'S SET: it rises, and a number is a member exactly when it is above 0 and some subfield says it
pub record SpreadSet (w n : ℕ) (s : List ℕ) (ms : List ℤ) : Type 0 where
  pub rises : rising_from (pos 0) ms ≡ true
  pub has : (k : ℕ) → is_member ms (pos k) ≡ true → (1 ≤ k) × SomeSays (pos k) w n s
  pub all : (k : ℕ) → 1 ≤ k → SomeSays (pos k) w n s → is_member ms (pos k) ≡ true
