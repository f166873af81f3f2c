-- TOKENS, over the file d by places: from n on stands the thing, and m is the place behind it. "Letter case of keywords and parameters is
-- not significant. Tokens need no space between .. No space within a keyword or number." Bytes below 32 are not there (`text`).
use Rattle.std.specs.Prelude.{◌≡◌, Bool, true, false, List, [], ◌∷◌, ℕ, ◌+◌, ◌-◌, length, Ok}
use Rattle.std.proofs.Math.Option.{Option, none, some}
use Rattle.ascii.specs.rule.Class.{class_of}
use Rattle.scan.specs.rule.Text.{stop, sign, text}
use Rattle.scan.specs.rule.Text as scan
use Rattle.scan.specs.rule.Number.{is_digit, is_value, decimal_of}
use Rattle.scan.specs.Word.{Written}
use Rattle.signs.specs.declared.Sign.{Sign}
use Rattle.marks.specs.Spelling.{Spelt}
use Rattle.token_laws.specs.Gaps.{Behind}
use Rattle.statements.specs.rule.Words.{NOTE, END}
use Rattle.survey.specs.rule.Survey.{Figure, Amount, KeptText}
use Rattle.reading.specs.rule.Token.{amount_read}

-- ---- gaps: spaces and whole comments, as long as there are any. At m stands the byte behind them, or the end
abbrev pub Gap : List ℕ → ℕ → ℕ → Type 0
Gap d n m = Behind d n (Ok m)

-- ---- words: the letters of w right here, each in either case; none of that
abbrev pub Here : List ℕ → List ℕ → ℕ → ℕ → Type 0
Here d w n m = Written w n (text d n) m

abbrev pub NoWord : List ℕ → List ℕ → ℕ → Type 0
NoWord d w n = (m : ℕ) → Here d w n m → ⊥

-- a word behind a gap
pub data Keyword (d w : List ℕ) : ℕ → ℕ → Type 0 where
  keyword : {n k m : ℕ} → Gap d n k → Here d w k m → Keyword d w n m

-- ---- runs: the longest run of bytes that pass; they are s
pub data Run (f : ℕ → Bool) : ℕ → scan.Text → List ℕ → ℕ → Type 0 where
  more : {n p b m : ℕ} {s : List ℕ} {t : scan.Text} → f b ≡ true → Run f (p + 1) t s m → Run f n (sign p b t) (b ∷ s) m
  other : {n p b : ℕ} {t : scan.Text} → f b ≡ false → Run f n (sign p b t) [] n
  end : {n p : ℕ} → Run f n (stop p) [] n

-- "any other number the longest run of digits": one digit at least, and what they say, however many they are
abbrev pub figure_of : ℕ → ℕ → List ℕ → Figure
figure_of n m s = record { place = n; end = m; digits = length s; value = decimal_of 0 s }

pub data Number (d : List ℕ) : ℕ → Figure → ℕ → Type 0 where
  number : {n p b m : ℕ} {s : List ℕ} → Gap d n p → Run is_digit p (text d p) (b ∷ s) m → Number d n (figure_of p m (b ∷ s)) m

-- "a value is the longest run of digits, points, `+` and `-`", right here
pub data Value (d : List ℕ) : ℕ → Amount → ℕ → Type 0 where
  value : {n b m : ℕ} {s : List ℕ} → Run is_value n (text d n) (b ∷ s) m → Value d n (amount_read n m (b ∷ s)) m

-- ---- a string: a quote (34), pieces and a quote; "text places are just after the opening quote; lengths are undecoded bytes"
pub data String (d : List ℕ) : ℕ → KeptText → ℕ → Type 0 where
  string : {n k p m : ℕ} {s : List Sign} → Gap d n k → text d k ≡ sign p 34 (text d (p + 1)) → Spelt (text d (p + 1)) s m
      → String d n (record { place = p + 1; length = m - (p + 1) - 1 }) m

-- ---- one letter: class 3
pub data Letter (d : List ℕ) : ℕ → ℕ → ℕ → Type 0 where
  letter : {n k p b : ℕ} → Gap d n k → text d k ≡ sign p b (text d (p + 1)) → class_of b ≡ 3 → Letter d n b (p + 1)

-- ---- "NOTE and a string may stand .. between whole statements": any number of them, and the gap behind them
pub data Notes (d : List ℕ) : ℕ → ℕ → Type 0 where
  no_more : {n m : ℕ} → Gap d n m → Notes d n m
  note : {n k j m : ℕ} {t : KeptText} → Keyword d NOTE n k → String d k t j → Notes d j m → Notes d n m

-- a statement begins with its word, behind notes
pub data Statement (d w : List ℕ) : ℕ → ℕ → Type 0 where
  statement : {n k m : ℕ} → Notes d n k → Here d w k m → Statement d w n m

pub data Phrase (d w : List ℕ) : ℕ → KeptText → ℕ → Type 0 where
  phrase : {n k m : ℕ} {t : KeptText} → Statement d w n k → String d k t m → Phrase d w n t m

-- END and a word
pub data End (d w : List ℕ) : ℕ → ℕ → Type 0 where
  end : {n k m : ℕ} → Statement d END n k → Keyword d w k m → End d w n m

-- ---- "with comments before an optional word": the word, and P behind it; or the gap alone, where no such word stands
pub data Optional (d w : List ℕ) {A : Type 0} (P : ℕ → A → ℕ → Type 0) : ℕ → Option A → ℕ → Type 0 where
  given : {n k m : ℕ} {a : A} → Keyword d w n k → P k a m → Optional d w P n (some a) m
  absent : {n m : ℕ} → Gap d n m → NoWord d w m → Optional d w P n none m

pub data Whether (d w : List ℕ) : ℕ → Bool → ℕ → Type 0 where
  yes : {n m : ℕ} → Keyword d w n m → Whether d w n true m
  no : {n m : ℕ} → Gap d n m → NoWord d w m → Whether d w n false m
