-- Every token takes the reader on: less is left behind it.
use Rattle.std.specs.Prelude.{Ok, Err}
use mathlib.Core.Path.{◌≡◌, refl}
use mathlib.Core.Bool.{Bool, true, false, cond}
use mathlib.Core.List.{List, [], ◌∷◌}
use Prim.Native.Nat.{ℕ, zero, suc, ◌+◌, ◌-◌, ◌≤◌, ◌<◌}
use native.Mathlib.Omega.{arith}
use lib.Dec.{eqb}
use lib.ListN.{length}
use Rattle.ascii.specs.rule.Class.{upper_of}
use Rattle.scan.specs.rule.Text.{Text, stop, sign, text, place_of}
use Rattle.scan.specs.rule.Loop.{Next, Again, Done}
use Rattle.scan.specs.declared.Word.{Word}
use Rattle.scan.specs.declared.Word.TheVariants.{Matched, Not}
use Rattle.scan.specs.rule.Word.{word_of, word_at}
use Rattle.scan.proofs.Texts.{From, at_stop, at_sign, from_text, place_from}
use Rattle.scan.specs.rule.Number.{is_space}
use Rattle.marks.specs.declared.Skip.{Skip}
use Rattle.marks.specs.declared.Skip.TheVariants.{Past, Unclosed, Bad}
use Rattle.marks.specs.declared.Inside.{Inside}
use Rattle.marks.specs.declared.Inside.TheVariants.{Plain}
use Rattle.marks.specs.declared.Move.{Move}
use Rattle.marks.specs.declared.Move.TheVariants.{Go, Closed, Wrong}
use Rattle.marks.specs.rule.Marks.{comment_of, inside_of, moved, string_of}
use Rattle.marks.proofs.Levels.{Ahead, by_past, string_ahead}
use Rattle.tokens.specs.declared.Choice.TheVariants.{Taken}
use Rattle.tokens.specs.declared.Quoted.{Quoted}
use Rattle.tokens.specs.rule.Gap.{fault, gap_skip, gap_step, gap_at, OrFault}
use Rattle.tokens.specs.Gap.{gap_on, left}
use Rattle.tokens.specs.Token.{of_word, word_here, word_on, of_choice, choice_of, of_skip, phrase_on, string_in, string_on, past_string}
use Rattle.tokens.proofs.Gaps.{gap_less, gap_again, gap_done}

abbrev quote : ℕ → ℕ → Quoted
quote p m = record { place = p + 1; length = m - (p + 1) - 1; next = m }

module _ (d : List ℕ) where
  -- ---- words
  word_within : {at n : ℕ} {t : Text} → From d at t → (w : List ℕ) → at ≤ length d → word_of at t w ≡ Matched n → (at ≤ n) × (n ≤ length d)
  unfolding word_of
  word_within {at} {n} f [] h e = let q : at ≡ n = cc in (omega arith, omega arith)
  word_within at_stop (x ∷ w) h e = let z : ◌≡◌ {A = ℕ} 0 1 = cc in absurd (omega arith)
  word_within {at} {n} (at_sign {p = p} {b = b} {u = u} g l q r) (x ∷ w) h e = by (eqb (upper_of b) x)
      (word_within {at = p + 1} {n = n} r w (omega arith)) e
    where
      by : (y : Bool) → (word_of (p + 1) u w ≡ Matched n → (p + 1 ≤ n) × (n ≤ length d)) → cond y (word_of (p + 1) u w) Not ≡ Matched n
          → (at ≤ n) × (n ≤ length d)
      by true ih e = let k = ih e in (omega arith, k.1)
      by false ih e = let z : ◌≡◌ {A = ℕ} 0 1 = cc in absurd (omega arith)

  word_ahead : {at n : ℕ} {t : Text} → From d at t → (x : ℕ) (w : List ℕ) → word_of at t (x ∷ w) ≡ Matched n → (at < n) × (n ≤ length d)
  unfolding word_of
  word_ahead at_stop x w e = let z : ◌≡◌ {A = ℕ} 0 1 = cc in absurd (omega arith)
  word_ahead {at} {n} (at_sign {p = p} {b = b} {u = u} g l q r) x w e = by (eqb (upper_of b) x)
      (word_within {at = p + 1} {n = n} r w (omega arith)) e where
        by : (y : Bool) → (word_of (p + 1) u w ≡ Matched n → (p + 1 ≤ n) × (n ≤ length d)) → cond y (word_of (p + 1) u w) Not ≡ Matched n
            → (at < n) × (n ≤ length d)
        by true ih e = let k = ih e in (omega arith, k.1)
        by false ih e = let z : ◌≡◌ {A = ℕ} 0 1 = cc in absurd (omega arith)

  -- a word that was taken: less is left
  pub taken_less : (t : OrFault ℕ) (x : ℕ) (w : List ℕ) {m : ℕ} → choice_of d t (x ∷ w) ≡ Taken m → left d (Ok m) < left d t
  unfolding choice_of left word_at
  taken_less (Ok n) x w {m} e = by (word_of n (text d n) (x ∷ w)) refl e where
    by : (r : Word) → word_of n (text d n) (x ∷ w) ≡ r → of_choice r ≡ Taken m → suc (length d - m) < suc (length d - n)
    by (Matched k) f e = let q : k ≡ m = cc in let h = word_ahead (from_text d n) x w f in omega arith
    by Not f e = let z : ◌≡◌ {A = ℕ} 0 1 = cc in absurd (omega arith)
  taken_less (Err f) x w e = let z : ◌≡◌ {A = ℕ} 0 1 = cc in absurd (omega arith)

  -- ---- gaps
  step_done : (at : ℕ) (t : Text) → at ≤ place_of t → (r : OrFault ℕ) → gap_step t ≡ Done r → left d r ≤ left d (Ok at)
  unfolding gap_step left place_of
  step_done at (stop p) h r e = let q : Ok p ≡ r = cc in rw (← q) (omega arith)
  step_done at (sign p b u) h r e = by (is_space b) (eqb b 60) (comment_of 1 u) e where
    by : (x y : Bool) (k : Skip) → cond x (Again (p + 1)) (cond y (gap_skip p k) (Done (Ok p))) ≡ Done r → left d r ≤ suc (length d - at)
    by true y k e = let z : ◌≡◌ {A = ℕ} 0 1 = cc in absurd (omega arith)
    by false true (Past n) e = let z : ◌≡◌ {A = ℕ} 0 1 = cc in absurd (omega arith)
    by false true Unclosed e = let q : Err (fault 3 p) ≡ r = cc in rw (← q) (omega arith)
    by false true (Bad o) e = let q : Err (fault 3 o) ≡ r = cc in rw (← q) (omega arith)
    by false false k e = let q : Ok p ≡ r = cc in rw (← q) (omega arith)

  gap_within : (f n : ℕ) → length d - n < f → left d (gap_at d n) ≤ left d (Ok n)
  unfolding left
  gap_within zero n h = absurd (omega arith)
  gap_within (suc f) n h = by (gap_step (text d n)) refl (gap_within f) where
    by : (s : Next ℕ (OrFault ℕ)) → gap_step (text d n) ≡ s → ((m : ℕ) → length d - m < f → left d (gap_at d m) ≤ left d (Ok m))
        → left d (gap_at d n) ≤ left d (Ok n)
    by (Again m) e ih = let l = gap_less d (from_text d n) e in let k = ih m (omega arith) in rw (gap_again d n e) (omega arith)
    by (Done r) e ih = rw (gap_done d n e) (step_done n (text d n) (place_from d n) r e)

  pub gap_left : (t : OrFault ℕ) → left d (gap_on d t) ≤ left d t
  unfolding gap_on
  gap_left (Ok n) = gap_within (suc (length d - n)) n (omega arith)
  gap_left (Err f) = omega arith

  -- ---- strings
  string_in_lem : (n : ℕ) {t : Text} → From d n t → left d (past_string (string_in t)) ≤ left d (Ok n)
  unfolding string_in past_string left
  string_in_lem n at_stop = omega arith
  string_in_lem n (at_sign {p = p} {b = b} {u = u} g l q r) = by (eqb b 34) (string_of Plain u) (string_ahead d r Plain) where
    by : (x : Bool) (k : Skip) → Ahead (p + 1) k → left d (past_string (cond x (of_skip p k) (Err (fault 2 p)))) ≤ suc (length d - n)
    by true (Past m) (by_past h) = omega arith
    by true Unclosed h = omega arith
    by true (Bad o) h = omega arith
    by false k h = omega arith

  pub string_left : (t : OrFault ℕ) → left d (past_string (string_on d t)) ≤ left d t
  unfolding string_on past_string left
  string_left t = by (gap_on d t) (gap_left t) where
    by : (g : OrFault ℕ) → left d g ≤ left d t → left d (past_string (phrase_on g λ n. string_in (text d n))) ≤ left d t
    by (Ok n) h = let k = string_in_lem n (from_text d n) in omega arith
    by (Err f) h = omega arith

  -- a string ends within the file
  string_end : {at : ℕ} {t : Text} → From d at t → (s : Inside) {n : ℕ} → string_of s t ≡ Past n → n ≤ length d
  unfolding string_of
  string_end at_stop s e = let z : ◌≡◌ {A = ℕ} 0 1 = cc in absurd (omega arith)
  string_end (at_sign {p = p} {b = b} {u = u} g l q r) s {n} e = by (λ s. string_end r s) (inside_of s b p) e where
    by : ((s : Inside) → string_of s u ≡ Past n → n ≤ length d) → (m : Move) → moved m (λ s. string_of s u) (Past (p + 1)) ≡ Past n → n
        ≤ length d
    by ih (Go s) e = ih s e
    by ih Closed e = let k : p + 1 ≡ n = cc in omega arith
    by ih (Wrong o) e = let z : ◌≡◌ {A = ℕ} 0 1 = cc in absurd (omega arith)

  quoted_in : {n : ℕ} {t : Text} → From d n t → (q : Quoted) → string_in t ≡ Ok q → (q.place ≤ length d) × (q.length ≤ length d)
  unfolding string_in
  quoted_in at_stop q e = let z : ◌≡◌ {A = ℕ} 0 1 = cc in absurd (omega arith)
  quoted_in (at_sign {p = p} {b = b} {u = u} g l f r) q e = by (eqb b 34) (string_of Plain u) refl e where
    by : (x : Bool) (k : Skip) → string_of Plain u ≡ k → cond x (of_skip p k) (Err (fault 2 p)) ≡ Ok q → (q.place ≤ length d)
        × (q.length ≤ length d)
    by true (Past m) i e =
        let h = string_end r Plain i in
        let j : quote p m ≡ q = cc in
        rw (← j) (omega arith, omega arith)
    by true Unclosed i e = let z : ◌≡◌ {A = ℕ} 0 1 = cc in absurd (omega arith)
    by true (Bad o) i e = let z : ◌≡◌ {A = ℕ} 0 1 = cc in absurd (omega arith)
    by false k i e = let z : ◌≡◌ {A = ℕ} 0 1 = cc in absurd (omega arith)

  pub quoted_within : (t : OrFault ℕ) (q : Quoted) → string_on d t ≡ Ok q → (q.place ≤ length d) × (q.length ≤ length d)
  unfolding string_on
  quoted_within t q = by (gap_on d t) where
    by : (g : OrFault ℕ) → phrase_on g (λ n. string_in (text d n)) ≡ Ok q → (q.place ≤ length d) × (q.length ≤ length d)
    by (Ok n) e = quoted_in (from_text d n) q e
    by (Err f) e = let z : ◌≡◌ {A = ℕ} 0 1 = cc in absurd (omega arith)

  -- behind a string stands at least its two quotes, so that a place of 0 tells that none was read
  next_in : {n : ℕ} {t : Text} → From d n t → (q : Quoted) → string_in t ≡ Ok q → 2 ≤ q.next
  unfolding string_in
  next_in at_stop q e = let z : ◌≡◌ {A = ℕ} 0 1 = cc in absurd (omega arith)
  next_in (at_sign {p = p} {b = b} {u = u} g l f r) q e = by (eqb b 34) (string_of Plain u) (string_ahead d r Plain) e where
    by : (x : Bool) (k : Skip) → Ahead (p + 1) k → cond x (of_skip p k) (Err (fault 2 p)) ≡ Ok q → 2 ≤ q.next
    by true (Past m) (by_past h) e = let j : quote p m ≡ q = cc in rw (← j) (omega arith)
    by true Unclosed h e = let z : ◌≡◌ {A = ℕ} 0 1 = cc in absurd (omega arith)
    by true (Bad o) h e = let z : ◌≡◌ {A = ℕ} 0 1 = cc in absurd (omega arith)
    by false k h e = let z : ◌≡◌ {A = ℕ} 0 1 = cc in absurd (omega arith)

  pub string_next : (t : OrFault ℕ) (q : Quoted) → string_on d t ≡ Ok q → 2 ≤ q.next
  unfolding string_on
  string_next t q = by (gap_on d t) where
    by : (g : OrFault ℕ) → phrase_on g (λ n. string_in (text d n)) ≡ Ok q → 2 ≤ q.next
    by (Ok n) e = next_in (from_text d n) q e
    by (Err f) e = let z : ◌≡◌ {A = ℕ} 0 1 = cc in absurd (omega arith)

  -- ---- a word that is due
  word_here_lem : (t : OrFault ℕ) (x : ℕ) (w : List ℕ) → left d (word_here d t (x ∷ w)) ≤ left d t
  unfolding word_here word_at left
  word_here_lem (Ok n) x w = by (word_of n (text d n) (x ∷ w)) refl where
    by : (r : Word) → word_of n (text d n) (x ∷ w) ≡ r → left d (of_word n r) ≤ suc (length d - n)
    by (Matched m) f = let h = word_ahead (from_text d n) x w f in omega arith
    by Not f = omega arith
  word_here_lem (Err f) x w = omega arith

  pub word_left : (t : OrFault ℕ) (x : ℕ) (w : List ℕ) → left d (word_on d t (x ∷ w)) ≤ left d t
  unfolding word_on
  word_left t x w = omega (arith, word_here_lem (gap_on d t) x w, gap_left t)
