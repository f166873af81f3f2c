-- What is read later stands later: of two numbers with a word between them, as `TO` and `OF` stand, the second has the later place. So the
-- order that Judged.antt asks of a pair holds of every pair that is read.
use Rattle.std.proofs.Math.Path.{◌≡◌, refl}
use Rattle.std.proofs.Common.{sym, ap}
use Rattle.std.specs.Prelude.{Bool, ℕ, ◌+◌, ◌≤◌, eqb, Ok, Err}
use Rattle.std.proofs.Math.Bool.{true, false, cond}
use mathlib.Core.List.{List, [], ◌∷◌}
use native.Mathlib.Omega.{arith}
use Rattle.ascii.specs.rule.Class.{upper_of}
use Rattle.scan.specs.rule.Text.{Text, stop, sign, text, place_of}
use Rattle.scan.specs.rule.Number.{is_digit, run_of}
use Rattle.scan.specs.Number.{digits_from}
use Rattle.scan.specs.rule.Word.{word_of, word_at}
use Rattle.scan.specs.declared.Word.{Word}
use Rattle.scan.specs.declared.Word.TheVariants.{Matched, Not}
use Rattle.scan.proofs.Texts.{From, at_stop, at_sign, from_text, place_from}
use Rattle.scan.proofs.Orders.{run_ahead}
use Rattle.marks.proofs.Levels.{ahead, comment_ahead}
use Rattle.marks.proofs.Comments.{comment_exactly}
use Rattle.tokens.specs.declared.Choice.TheVariants.{Taken}
use Rattle.tokens.specs.declared.Figures.{Figures}
use Rattle.tokens.specs.rule.Gap.{fault, gap_at, OrFault}
use Rattle.tokens.specs.Gap.{gap_on}
use Rattle.tokens.specs.Token.{of_choice, choice_of, of_digits, number_here, number_on}
use Rattle.token_laws.specs.Gaps.{Gap, none, space, comment, Behind, token, ended, gap_exactly}

module _ (d : List ℕ) where
  -- what is left at a place starts there or later
  first_at : (at p b : ℕ) {u : Text} → text d at ≡ sign p b u → at ≤ p
  unfolding place_of
  first_at at p b e = rw e at (place_from d at)

  end_at : (at p : ℕ) → text d at ≡ stop p → at ≤ p
  unfolding place_of
  end_at at p e = rw e at (place_from d at)

  gap_on_lem : {at n : ℕ} → Gap d at n → at ≤ n
  gap_on_lem none = omega arith
  gap_on_lem {at} (space {p = p} e g) = omega (arith, first_at at p 32 e, gap_on_lem g)
  gap_on_lem {at} (comment {p = p} {k = k} e c g) =
      omega (arith, first_at at p 60 e, ahead (comment_ahead d (from_text d (p + 1)) 1) ((comment_exactly d 1 (p + 1) k).1 c), gap_on_lem g)

  behind_on : {at p : ℕ} → Behind d at (Ok p) → at ≤ p
  behind_on {p = p} (token {n = n} {b = b} g e f h) = omega (arith, gap_on_lem g, first_at n p b e)
  behind_on {p = p} (ended {n = n} g e) = omega (arith, gap_on_lem g, end_at n p e)

  gap_later : (at p : ℕ) → gap_at d at ≡ Ok p → at ≤ p
  gap_later at p e = behind_on ((gap_exactly d at (Ok p)).0 e)

  word_later : (w : List ℕ) (m : ℕ) {n : ℕ} {t : Text} → From d n t → word_of n t w ≡ Matched m → n ≤ m
  unfolding word_of
  word_later [] m {n} r e = let h : n ≡ m = cc in omega arith
  word_later (x ∷ w) m at_stop e = let z : ◌≡◌ {A = ℕ} 0 1 = cc in absurd (omega arith)
  word_later (x ∷ w) m {n} (at_sign {p = p} {b = b} {u = u} h g i r) e = by (eqb (upper_of b) x) (word_later w m r) e where
    by : (q : Bool) → (word_of (p + 1) u w ≡ Matched m → p + 1 ≤ m) → cond q (word_of (p + 1) u w) Not ≡ Matched m → n ≤ m
    by true ih e = omega (arith, ih e)
    by false ih e = let z : ◌≡◌ {A = ℕ} 0 1 = cc in absurd (omega arith)

  choice_later : (n : ℕ) (w : List ℕ) (m : ℕ) → choice_of d (Ok n) w ≡ Taken m → n ≤ m
  unfolding choice_of word_at
  choice_later n w m = by (word_of n (text d n) w) refl where
    by : (x : Word) → word_of n (text d n) w ≡ x → of_choice x ≡ Taken m → n ≤ m
    by (Matched k) e f = let h : k ≡ m = cc in word_later w m (from_text d n) (rw h at e)
    by Not e f = let z : ◌≡◌ {A = ℕ} 0 1 = cc in absurd (omega arith)

  -- a number that is read stands where its gap ends, and what is read next behind it
  number_at : (k : ℕ) (x : Figures) → number_here d (Ok k) ≡ Ok x → (x.place ≡ k) × (k ≤ x.next)
  unfolding number_here of_digits digits_from
  number_at k x = by (eqb (digits_from 0 0 k (text d k)).count 0) where
    read : Figures
    read = record {
      size = (digits_from 0 0 k (text d k)).size;
      count = (digits_from 0 0 k (text d k)).count;
      place = k;
      next = run_of is_digit k (text d k);
    }

    by : (q : Bool) → cond q (Err (fault 2 k)) (Ok read) ≡ Ok x → (x.place ≡ k) × (k ≤ x.next)
    by true e = let z : ◌≡◌ {A = ℕ} 0 1 = cc in absurd (omega arith)
    by false e =
        let j : read ≡ x = cc in
        let n : run_of is_digit k (text d k) ≡ x.next = ap (λ (y : Figures). y.next) j in
        (sym (ap (λ (y : Figures). y.place) j), omega (arith, run_ahead d is_digit (from_text d k)))

  number_later : (g : OrFault ℕ) (x : Figures) → number_here d g ≡ Ok x → (k : ℕ) × (g ≡ Ok k) × (x.place ≡ k) × (k ≤ x.next)
  unfolding number_here
  number_later (Ok k) x e = let h = number_at k x e in (k, refl, h.0, h.1)
  number_later (Err f) x e = let z : ◌≡◌ {A = ℕ} 0 1 = cc in absurd (omega arith)

  taken_later : (g : OrFault ℕ) (w : List ℕ) (m : ℕ) → choice_of d g w ≡ Taken m → (k : ℕ) × (g ≡ Ok k) × (k ≤ m)
  unfolding choice_of
  taken_later (Ok k) w m e = (k, refl, choice_later k w m e)
  taken_later (Err f) w m e = let z : ◌≡◌ {A = ℕ} 0 1 = cc in absurd (omega arith)

  -- IN ORDER: a number x, a word w that is taken behind it, and a number y behind that
  pub pair_ordered : (t : OrFault ℕ) (w : List ℕ) (m : ℕ) (x y : Figures) → number_on d t ≡ Ok x
      → choice_of d (gap_on d (Ok x.next)) w ≡ Taken m → number_on d (Ok m) ≡ Ok y → x.place ≤ y.place
  unfolding number_on gap_on
  pair_ordered t w m x y e f h =
      let a = number_later (gap_on d t) x e in
      let b = taken_later (gap_at d x.next) w m f in
      let c = number_later (gap_at d m) y h in
      omega (arith, a.2, a.3, b.2, c.2, gap_later x.next b.0 b.1, gap_later m c.0 c.1)
