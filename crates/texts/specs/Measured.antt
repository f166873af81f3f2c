-- What the code keeps of a stretch while it is measured: where its reader stands, and how many signs it has said so far.
use Rattle.std.specs.Prelude.{◌≡◌, ◌⊎◌, Bool, true, false, cond, ◌||◌, List, ◌∷◌, ℕ, ◌+◌, ◌≤◌, ◌<◌, eqb, ℤ, length, get_or}
use Rattle.std.proofs.lemmas.List.Edits.{sets}
use Rattle.scan.specs.rule.Text.{Text, stop, sign, text}
use Rattle.marks.specs.declared.Inside.{Inside}
use Rattle.marks.specs.declared.Inside.TheVariants.{Plain, Opened, Shut, Ell, Pair, Low}
use Rattle.marks.specs.declared.Move.{Move}
use Rattle.marks.specs.declared.Move.TheVariants.{Go, Closed, Wrong}
use Rattle.signs.specs.declared.Sign.{Sign}
use Rattle.signs.specs.declared.Sign.TheVariants.{Byte, Break}
use Rattle.marks.specs.rule.Marks.{is_hex, inside_of}
use Rattle.texts.specs.declared.Pace.{Pace}
use Rattle.texts.specs.declared.Pace.TheVariants.{On}
use Rattle.texts.specs.declared.Pace.TheVariants as pace
use Rattle.marks.specs.rule.Spelling.{hex_pair, gives_of, decode_of}
use Rattle.std.specs.Prelude.{Option, Some, None}
use Rattle.texts.specs.declared.Run.{Run}
use Rattle.texts.specs.rule.Decode.{numbers_of}

-- a byte that is no plain text: a quote, or a brace that opens a form
abbrev pub is_mark : ℕ → Bool
is_mark b = eqb b 34 || eqb b 123

-- a stretch is over: in plain text it is the inside of a text, in a form it is not
unfoldable pub ended_in : Inside → ℕ → Option ℕ
ended_in Plain c = Some c
ended_in (Opened o) c = None
ended_in (Shut o) c = None
ended_in (Ell o) c = None
ended_in (Pair o) c = None
ended_in (Low o) c = None

-- how many signs a byte completes: none or one
unfoldable pub completes : Inside → ℕ → ℕ
completes s b = length (gives_of s 0 b)

abbrev pub measured : Move → (Inside → Option ℕ) → Option ℕ
measured (Go s) k = k s
measured Closed k = None
measured (Wrong o) k = None

-- a stretch read on from s, where c signs were said before
unfoldable pub measure_from : Inside → ℕ → Text → Option ℕ
measure_from s c (stop p) = ended_in s c
measure_from s c (sign p b t) = measured (inside_of s b p) (λ u. measure_from u (c + completes s b) t)

-- a run of bytes that was passed from n on in the state s: what is left is measured as if they were counted
pub record Passed (d : List ℕ) (s : Inside) (n : ℕ) (r : Run) : Type 0 where
  pub same : (c : ℕ) → measure_from s c (text d n) ≡ measure_from s (c + r.count) (text d r.next)
  pub onward : n ≤ r.next
  pub inside : n ≤ length d → r.next ≤ length d
  pub few : n + r.count ≤ r.next

-- what follows one byte, and how the rest then measures
unfoldable pub paced_of : List ℕ → ℕ → Inside → Pace → Option ℕ
paced_of d c s (On k n t) = measure_from t (c + k) (text d n)
paced_of d c s pace.Wrong = None
paced_of d c s pace.Over = ended_in s c

pub record Paced (d : List ℕ) (s : Inside) (n : ℕ) (r : Pace) : Type 0 where
  pub paces : (c : ℕ) → measure_from s c (text d n) ≡ paced_of d c s r
  pub onwards : {k m : ℕ} {t : Inside} → r ≡ On k m t → (n < m) × (m ≤ length d) × (k ≤ 1)

-- one that was copied, from k on in the list: what is left to store, from here, gives the whole
pub record Copied (d : List ℕ) (s : Inside) (n k : ℕ) (list list' : List ℤ) (r : Run) : Type 0 where
  pub same_left : sets list k (numbers_of (decode_of s 0 (text d n))) ≡ sets list' r.count (numbers_of (decode_of s 0 (text d r.next)))
  pub same_count : k + length (decode_of s 0 (text d n)) ≡ r.count + length (decode_of s 0 (text d r.next))
  pub same_room : length list' ≡ length list
  pub ahead : k ≤ r.count

-- ---- a sign that is told at once
-- the reader at n in the state s says x, and stands at m in the state t
pub record Says (d : List ℕ) (s : Inside) (n : ℕ) (x : Sign) (m : ℕ) (t : Inside) : Type 0 where
  pub split : decode_of s 0 (text d n) ≡ x ∷ decode_of t 0 (text d m)
  pub counts : (c : ℕ) → measure_from s c (text d n) ≡ measure_from t (c + 1) (text d m)
  pub ahead : n < m
  pub within : m ≤ length d

-- what a brace form at n says whose bytes stand side by side: the byte behind its brace tells which form it is
unfoldable pub form_sign : List ℕ → ℕ → Sign
form_sign d n =
    let b = get_or d (n + 1) 0 in
    cond (eqb b 78) Break (cond (is_mark b) (Byte b) (Byte (hex_pair b (get_or d (n + 2) 0))))

-- such a form from n to m
pub record Form (d : List ℕ) (n m : ℕ) : Type 0 where
  pub says : Says d Plain n (form_sign d n) m Plain
  pub room : n + 3 ≤ length d
  pub hex : (get_or d (n + 1) 0 ≡ 78 → ⊥) → is_mark (get_or d (n + 1) 0) ≡ false
      → (is_hex (get_or d (n + 1) 0) ≡ true) × (is_hex (get_or d (n + 2) 0) ≡ true)

-- the end of a form at n; or n, where none was told
abbrev pub FormEnd : List ℕ → ℕ → ℕ → Type 0
FormEnd d n m = (m ≡ n) ⊎ Form d n m
