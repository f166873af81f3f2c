-- "`SSS` comes first, with no space before it. Then `VERSION 1.1`": spaces alone stand between, and the version is the run `1.1` as text.
-- What is read of the opening, both ways.
use Rattle.std.specs.Prelude.{◌↔◌, Bool, true, false, cond, ℕ, ◌+◌, ◌-◌, ◌<◌, eqb, ltb, leb, Ok, Err}
use Rattle.std.proofs.Math.Path.{◌≡◌, refl}
use Rattle.std.proofs.Common.{◌∙◌, sym, arith}
use mathlib.Core.List.{List, [], ◌∷◌}
use borrow.Author.Tests.{eqb-true, eqb-false, eq-eqb, ne_eqb, ltb-false}
use Rattle.ascii.specs.rule.Class.{class_of, upper_of}
use Rattle.scan.specs.rule.Text.{Text, stop, sign, text, place_of}
use Rattle.scan.specs.rule.Number.{is_space, is_digit, is_value, run_of, run_bytes}
use Rattle.scan.specs.rule.Word.{word_of, word_at}
use Rattle.scan.specs.Word.{Written, capitals}
use Rattle.scan.specs.declared.Word.{Word}
use Rattle.scan.specs.declared.Word.TheVariants.{Matched, Not}
use Rattle.statements.specs.rule.Words.{SSS, VERSION, DATE, TIME, ORIGIN, USER, STANDARD, NAMES, SURVEY, TITLE, RECORD, VARIABLE, NAME}
use Rattle.statements.specs.rule.Words.{LABEL, TYPE, SINGLE, MULTIPLE, QUANTITY, CHARACTER, LOGICAL, POSITION, TO, SPREAD, OF, SIZE, VALUES}
use Rattle.statements.specs.rule.Words.{WITH, SPECIAL, END, NOTE, ONE-ONE}
use Rattle.scan.proofs.Keywords.{word_exactly}
use Rattle.scan.proofs.Texts.{From, at_stop, at_sign, from_text}
use Rattle.tokens.specs.rule.Gap.{fault, OrFault}
use Rattle.tokens.specs.Gap.{then, spaces_on}
use Rattle.tokens.specs.Token.{of_word, word_here}
use Rattle.statements.specs.Opening.{whole, version_here, opening_of}
use Rattle.token_laws.specs.Gaps.{space_is, space_not, not_space}
use Rattle.token_laws.specs.Values.{run_empty}

-- every keyword is capitals, so that `word_exactly` of crate `scan` and `word_due_exactly` hold of it
pub keywords_capital :
    (capitals SSS ≡ true) × (capitals VERSION ≡ true) × (capitals DATE ≡ true) × (capitals TIME ≡ true) × (capitals ORIGIN ≡ true)
    × (capitals USER ≡ true) × (capitals STANDARD ≡ true) × (capitals NAMES ≡ true) × (capitals SURVEY ≡ true) × (capitals TITLE ≡ true)
    × (capitals RECORD ≡ true) × (capitals VARIABLE ≡ true) × (capitals NAME ≡ true) × (capitals LABEL ≡ true) × (capitals TYPE ≡ true)
    × (capitals SINGLE ≡ true) × (capitals MULTIPLE ≡ true) × (capitals QUANTITY ≡ true) × (capitals CHARACTER ≡ true)
    × (capitals LOGICAL ≡ true) × (capitals POSITION ≡ true) × (capitals TO ≡ true) × (capitals SPREAD ≡ true) × (capitals OF ≡ true)
    × (capitals SIZE ≡ true) × (capitals VALUES ≡ true) × (capitals WITH ≡ true) × (capitals SPECIAL ≡ true) × (capitals END ≡ true)
    × (capitals NOTE ≡ true)
unfolding capitals
keywords_capital = (
  refl,
  refl,
  refl,
  refl,
  refl,
  refl,
  refl,
  refl,
  refl,
  refl,
  refl,
  refl,
  refl,
  refl,
  refl,
  refl,
  refl,
  refl,
  refl,
  refl,
  refl,
  refl,
  refl,
  refl,
  refl,
  refl,
  refl,
  refl,
  refl,
  refl,
)

-- ---- the words
-- from `at` on the file has spaces and nothing else; the first byte behind them, or the end, stands at p
pub data Spaces (d : List ℕ) : ℕ → ℕ → Type 0 where
  byte : {at p b : ℕ} → text d at ≡ sign p b (text d (p + 1)) → (b ≡ 32 → ⊥) → Spaces d at p
  end : {at p : ℕ} → text d at ≡ stop p → Spaces d at p
  space : {at q p : ℕ} → text d at ≡ sign q 32 (text d (q + 1)) → Spaces d (q + 1) p → Spaces d at p

-- SSS from p to n, at the very start
pub data Begins (d : List ℕ) (n : ℕ) : Type 0 where
  sss : Written SSS (place_of (text d 0)) (text d (place_of (text d 0))) n → Begins d n

-- and VERSION behind spaces, up to n
pub data Goes (d : List ℕ) (n : ℕ) : Type 0 where
  version : {a p : ℕ} → Begins d a → Spaces d a p → Written VERSION p (text d p) n → Goes d n

-- what the opening says: 1.1, with what is read next behind it; or 2 at what stands where SSS, VERSION or a run is due; or 4 at a run that
-- is not 1.1
pub data Opens (d : List ℕ) : OrFault ℕ → Type 0 where
  one_one : {a p : ℕ} → Goes d a → Spaces d a p → run_bytes is_value (text d p) ≡ ONE-ONE → Opens d (Ok (run_of is_value p (text d p)))
  sss_due : ((n : ℕ) → Begins d n → ⊥) → Opens d (Err (fault 2 (place_of (text d 0))))
  version_due : {a p : ℕ} → Begins d a → Spaces d a p → ((n : ℕ) → Written VERSION p (text d p) n → ⊥) → Opens d (Err (fault 2 p))
  run_due : {a p : ℕ} → Goes d a → Spaces d a p → run_bytes is_value (text d p) ≡ [] → Opens d (Err (fault 2 p))
  other_run : {a p : ℕ} → Goes d a → Spaces d a p → (run_bytes is_value (text d p) ≡ [] → ⊥) → (run_bytes is_value (text d p) ≡ ONE-ONE → ⊥)
      → Opens d (Err (fault 4 p))

-- ---- spaces
module _ (d : List ℕ) where
  abbrev behind : ℕ → ℕ
  behind n = place_of (text d (run_of is_space n (text d n)))

  spaces_sound : {n : ℕ} {t : Text} → From d n t → t ≡ text d n → Spaces d n (place_of (text d (run_of is_space n t)))
  unfolding run_of place_of
  spaces_sound at_stop q = rw (← q) (end (sym q))
  spaces_sound {n} (at_sign {p = p} {b = b} {u = u} g w i r) q = by (is_space b) refl (spaces_sound r i) where
    e : text d n ≡ sign p b (text d (p + 1))
    e = rw i at (sym q)

    by : (x : Bool) → is_space b ≡ x → Spaces d (p + 1) (place_of (text d (run_of is_space (p + 1) u)))
        → Spaces d n (place_of (text d (cond x (run_of is_space (p + 1) u) n)))
    by true f ih = space (rw (space_is b f) at e) ih
    by false f ih = rw (← q) (byte e (space_not b f))

  spaces_complete : {n p : ℕ} → Spaces d n p → behind n ≡ p
  unfolding run_of place_of is_space class_of
  spaces_complete {n} (byte {b = b} e f) = rw (e, not_space b f) (rw e)
  spaces_complete (end e) = rw e (rw e)
  spaces_complete (space e s) = rw e (spaces_complete s)

-- ---- the run 1.1
below_letters : (b x : ℕ) → x < 65 → upper_of b ≡ x → b ≡ x
unfolding upper_of
below_letters b x h = by (ltb b 97) (leb b 122) refl where
  by : (p q : Bool) → ltb b 97 ≡ p → cond p b (cond q (b - 32) b) ≡ x → b ≡ x
  by true q f e = e
  by false true f e = let i = ltb-false b 97 f in absurd (omega arith)
  by false false f e = e

-- a text that begins with x, and then is matched by w up to m; and one whose run begins with x and goes on with s
data First (x : ℕ) (w : List ℕ) (m : ℕ) : Text → Type 0 where
  first : {p : ℕ} {u : Text} → word_of (p + 1) u w ≡ Matched m → First x w m (sign p x u)

first_of_lem : (x : ℕ) (w : List ℕ) (m at : ℕ) (t : Text) → x < 65 → word_of at t (x ∷ w) ≡ Matched m → First x w m t
unfolding word_of
first_of_lem x w m at (stop p) h e = let z : ◌≡◌ {A = ℕ} 0 1 = cc in absurd (omega arith)
first_of_lem x w m at (sign p b u) h e = by (eqb (upper_of b) x) refl e where
  by : (q : Bool) → eqb (upper_of b) x ≡ q → cond q (word_of (p + 1) u w) Not ≡ Matched m → First x w m (sign p b u)
  by true f e = rw (below_letters b x h (eqb-true (upper_of b) x f)) (first e)
  by false f e = let z : ◌≡◌ {A = ℕ} 0 1 = cc in absurd (omega arith)

data Head (x : ℕ) (s : List ℕ) : Text → Type 0 where
  head : {p : ℕ} {u : Text} → run_bytes is_value u ≡ s → Head x s (sign p x u)

head_of : (x : ℕ) (s : List ℕ) (t : Text) → run_bytes is_value t ≡ x ∷ s → Head x s t
unfolding run_bytes
head_of x s (stop p) e = let z : ◌≡◌ {A = ℕ} 0 1 = cc in absurd (omega arith)
head_of x s (sign p b u) e = by (is_value b) e where
  by : (q : Bool) → cond q (b ∷ run_bytes is_value u) [] ≡ x ∷ s → Head x s (sign p b u)
  by true e =
      let h : b ≡ x = cc in
      let i : run_bytes is_value u ≡ s = cc in
      rw h (head i)
  by false e = let z : ◌≡◌ {A = ℕ} 0 1 = cc in absurd (omega arith)

module _ (d : List ℕ) where
  tail : {n p b : ℕ} {u : Text} → From d n (sign p b u) → From d (p + 1) u
  tail (at_sign h w e r) = r

  -- 1.1 and then u: its run is 1.1 and the run of u, and it ends where that ends
  data Ones (n m : ℕ) : Text → Type 0 where
    ones : {p q s : ℕ} {u : Text} → m ≡ s + 1 → Ones n m (sign p 49 (sign q 46 (sign s 49 u)))

  ones_of : (n m : ℕ) (t : Text) → word_of n t ONE-ONE ≡ Matched m → Ones n m t
  unfolding word_of
  ones_of n m t e = by (first_of_lem 49 (46 ∷ 49 ∷ []) m n t (omega arith) e) where
    by_3 : {p q : ℕ} {u : Text} → First 49 [] m u → Ones n m (sign p 49 (sign q 46 u))
    by_3 (first {p = s} f) = let h : m ≡ s + 1 = cc in ones h

    by_2 : {p : ℕ} {u : Text} → First 46 (49 ∷ []) m u → Ones n m (sign p 49 u)
    by_2 (first {p = q} {u = u} f) = by_3 (first_of_lem 49 [] m (q + 1) u (omega arith) f)

    by : {t : Text} → First 49 (46 ∷ 49 ∷ []) m t → Ones n m t
    by (first {p = p} {u = u} f) = by_2 (first_of_lem 46 (49 ∷ []) m (p + 1) u (omega arith) f)

  -- matched up to the run's end, it is the run
  matched_run : {n : ℕ} {t : Text} → From d n t → Ones n (run_of is_value n t) t → run_bytes is_value t ≡ ONE-ONE
  unfolding run_bytes run_of is_value is_digit class_of
  matched_run r (ones e) = rw ((run_empty d (tail (tail (tail r)))).0 e)

  -- and a run 1.1 is matched up to its end
  run_matched : {n : ℕ} {t : Text} → From d n t → run_bytes is_value t ≡ ONE-ONE → word_of n t ONE-ONE ≡ Matched (run_of is_value n t)
  unfolding word_of upper_of run_of is_value is_digit class_of
  run_matched {n} {t} r e = by (head_of 49 (46 ∷ 49 ∷ []) t e) r where
    by_3 : {p q : ℕ} {u : Text} → Head 49 [] u → From d n (sign p 49 (sign q 46 u))
        → word_of n (sign p 49 (sign q 46 u)) ONE-ONE ≡ Matched (run_of is_value n (sign p 49 (sign q 46 u)))
    by_3 (head f) r = rw ((run_empty d (tail (tail (tail r)))).1 f)

    by_2 : {p : ℕ} {u : Text} → Head 46 (49 ∷ []) u → From d n (sign p 49 u)
        → word_of n (sign p 49 u) ONE-ONE ≡ Matched (run_of is_value n (sign p 49 u))
    by_2 (head {u = u} f) r = by_3 (head_of 49 [] u f) r

    by : {t : Text} → Head 49 (46 ∷ 49 ∷ []) t → From d n t → word_of n t ONE-ONE ≡ Matched (run_of is_value n t)
    by (head {u = u} f) r = by_2 (head_of 46 (49 ∷ []) u f) r

  -- ---- the version
  abbrev run_at : ℕ → List ℕ
  run_at p = run_bytes is_value (text d p)

  abbrev past : ℕ → ℕ
  past p = run_of is_value p (text d p)

  goes_on : (p : ℕ) → (run_at p ≡ [] → ⊥) → eqb (past p) p ≡ false
  goes_on p f = ne_eqb (past p) p (λ e. f ((run_empty d (from_text d p)).0 e))

  run_none : (p : ℕ) → run_at p ≡ [] → version_here d p ≡ Err (fault 2 p)
  unfolding version_here
  run_none p e = rw (eq-eqb (past p) p ((run_empty d (from_text d p)).1 e))

  run_one_one : (p : ℕ) → run_at p ≡ ONE-ONE → version_here d p ≡ Ok (past p)
  unfolding version_here word_at
  run_one_one p e =
      rw (goes_on p (λ f. let z : ◌≡◌ {A = ℕ} 0 1 = cc in omega arith), run_matched (from_text d p) e, eq-eqb (past p) (past p) refl)

  run_other : (p : ℕ) → (run_at p ≡ [] → ⊥) → (run_at p ≡ ONE-ONE → ⊥) → version_here d p ≡ Err (fault 4 p)
  unfolding version_here word_at
  run_other p f g = rw (goes_on p f) (by (word_of p (text d p) ONE-ONE) refl) where
    by : (x : Word) → word_of p (text d p) ONE-ONE ≡ x → whole p (past p) x ≡ Err (fault 4 p)
    by (Matched m) e = rw (ne_eqb m (past p) (λ q. g (matched_run (from_text d p) (ones_of p (past p) (text d p) (rw q at e)))))
    by Not e = refl

  -- which of the three it is
  data Which (p : ℕ) : Type 0 where
    is_none : run_at p ≡ [] → Which p
    is_one_one : run_at p ≡ ONE-ONE → Which p
    is_other : (run_at p ≡ [] → ⊥) → (run_at p ≡ ONE-ONE → ⊥) → Which p

  which : (p : ℕ) → Which p
  which p = by (eqb (past p) p) (word_of p (text d p) ONE-ONE) refl refl where
    some : eqb (past p) p ≡ false → run_at p ≡ [] → ⊥
    some e f = eqb-false (past p) p e ((run_empty d (from_text d p)).1 f)

    ends : (m : ℕ) → word_of p (text d p) ONE-ONE ≡ Matched m → eqb (past p) p ≡ false → (q : Bool) → eqb m (past p) ≡ q → Which p
    ends m e f true g =
        is_one_one (matched_run (from_text d p) (ones_of p (past p) (text d p) (rw (eqb-true m (past p) g) at e)))
    ends m e f false g =
        is_other (some f) (λ h. eqb-false m (past p) g (let k = run_matched (from_text d p) h in cc))

    by : (x : Bool) (y : Word) → eqb (past p) p ≡ x → word_of p (text d p) ONE-ONE ≡ y → Which p
    by true y e f = is_none ((run_empty d (from_text d p)).0 (eqb-true (past p) p e))
    by false (Matched m) e f = ends m f e (eqb m (past p)) refl
    by false Not e f = is_other (some e) (λ h. let k = run_matched (from_text d p) h in let z : ◌≡◌ {A = ℕ} 0 1 = cc in omega arith)

  -- ---- THE OPENING
  abbrev start : ℕ
  start = place_of (text d 0)

  sss_at : {n : ℕ} → Begins d n → word_at d start SSS ≡ Matched n
  sss_at {n} (sss w) = (word_exactly d start n SSS keywords_capital.0).1 w

  version_at : (n p : ℕ) → Written VERSION p (text d p) n → word_at d p VERSION ≡ Matched n
  version_at n p w = (word_exactly d p n VERSION keywords_capital.1).1 w

  not_there : (p : ℕ) (w : List ℕ) → capitals w ≡ true → ((n : ℕ) → Written w p (text d p) n → ⊥) → (x : Word) → word_at d p w ≡ x
      → of_word p x ≡ Err (fault 2 p)
  not_there p w k f (Matched n) e = absurd (f n ((word_exactly d p n w k).0 e))
  not_there p w k f Not e = refl

  complete : {r : OrFault ℕ} → Opens d r → opening_of d ≡ r
  unfolding opening_of word_here spaces_on
  complete (one_one {p = p} (version {p = q} b s w) s' e) =
      rw (sss_at b, spaces_complete d s, version_at _ q w, spaces_complete d s') (run_one_one p e)
  complete (sss_due f) = rw (not_there start SSS keywords_capital.0 (λ n w. f n (sss w)) (word_at d start SSS) refl)
  complete (version_due {p = p} b s f) =
      rw (sss_at b, spaces_complete d s) (rw (not_there p VERSION keywords_capital.1 f (word_at d p VERSION) refl))
  complete (run_due {p = p} (version {p = q} b s w) s' e) =
      rw (sss_at b, spaces_complete d s, version_at _ q w, spaces_complete d s') (run_none p e)
  complete (other_run {p = p} (version {p = q} b s w) s' e f) =
      rw (sss_at b, spaces_complete d s, version_at _ q w, spaces_complete d s') (run_other p e f)

  begun : (n : ℕ) → word_at d start SSS ≡ Matched n → Begins d n
  begun n e = sss ((word_exactly d start n SSS keywords_capital.0).0 e)

  spaces_to : (n : ℕ) → Spaces d n (behind d n)
  spaces_to n = spaces_sound d (from_text d n) refl

  never : {A : Type 0} {n : ℕ} → Not ≡ Matched n → A
  never e = let z : ◌≡◌ {A = ℕ} 0 1 = cc in absurd (omega arith)

  from_version : (a n : ℕ) → Begins d a → Written VERSION (behind d a) (text d (behind d a)) n → Opens d (version_here d (behind d n))
  from_version a n b w = by (which (behind d n)) where
    by : Which (behind d n) → Opens d (version_here d (behind d n))
    by (is_none e) = rw (run_none (behind d n) e) (run_due (version b (spaces_to a) w) (spaces_to n) e)
    by (is_one_one e) = rw (run_one_one (behind d n) e) (one_one (version b (spaces_to a) w) (spaces_to n) e)
    by (is_other e f) = rw (run_other (behind d n) e f) (other_run (version b (spaces_to a) w) (spaces_to n) e f)

  from_sss : (a : ℕ) → Begins d a → (x : Word) → word_at d (behind d a) VERSION ≡ x
      → Opens d (then (spaces_on d (of_word (behind d a) x)) (version_here d))
  unfolding spaces_on
  from_sss a b (Matched n) e = from_version a n b ((word_exactly d (behind d a) n VERSION keywords_capital.1).0 e)
  from_sss a b Not e = version_due b (spaces_to a) (λ n w. never (sym e ∙ version_at n (behind d a) w))

  sound : Opens d (opening_of d)
  unfolding opening_of word_here spaces_on
  sound = by (word_at d start SSS) refl where
    by : (x : Word) → word_at d start SSS ≡ x
        → Opens d (then (spaces_on d (then (spaces_on d (of_word start x)) (λ n. of_word n (word_at d n VERSION)))) (version_here d))
    by (Matched a) e = from_sss a (begun a e) (word_at d (behind d a) VERSION) refl
    by Not e = sss_due (λ n b. never (sym e ∙ sss_at b))

  pub opening_exactly : (r : OrFault ℕ) → (opening_of d ≡ r) ↔ Opens d r
  opening_exactly r = (λ e. rw e at sound, complete)
