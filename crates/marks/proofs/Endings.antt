-- What is no string: bad, if nothing that could follow makes it one, and unclosed, if something does.
use mathlib.Core.Logic.{◌↔◌}
use mathlib.Core.Path.{◌≡◌, refl, ◌∙◌, sym}
use mathlib.Core.List.{List}
use Prim.Native.Nat.{ℕ, ◌+◌, ◌≤◌}
use native.Mathlib.Omega.{arith}
use Rattle.ascii.specs.rule.Class.{class_of, upper_of}
use Rattle.signs.specs.declared.Sign.{Sign}
use Rattle.scan.specs.rule.Text.{Text, stop, sign, text}
use Rattle.scan.proofs.Texts.{From, at_stop, at_sign, from_text}
use Rattle.scan.specs.rule.Number.{is_digit}
use Rattle.marks.specs.declared.Inside.{Inside}
use Rattle.marks.specs.declared.Inside.TheVariants.{Plain, Opened, Shut, Ell, Pair, Low}
use Rattle.marks.specs.declared.Move.{Move}
use Rattle.marks.specs.declared.Move.TheVariants.{Go, Closed, Wrong}
use Rattle.marks.specs.declared.Skip.{Skip}
use Rattle.marks.specs.declared.Skip.TheVariants.{Past, Unclosed, Bad}
use Rattle.marks.specs.rule.Marks.{is_hex, inside_of, moved, string_of}
use Rattle.marks.specs.Spelling.{Pairs, last, more, Piece, plain, quote, brace, line, bytes, Spelt, Braced, here, after_piece, Broken}
use Rattle.marks.specs.Spelling.{breaks, breaks_after, joined}
use Rattle.marks.proofs.Complete.{string_complete, skip_piece}
use Rattle.marks.proofs.Sound.{String, says, string_sound, bad_place}

never : {A : Type 0} {n : ℕ} → Past n ≡ Unclosed → A
never e = let z : ◌≡◌ {A = ℕ} 0 1 = cc in absurd (omega arith)

never_bad : {A : Type 0} {o : ℕ} → Bad o ≡ Unclosed → A
never_bad e = let z : ◌≡◌ {A = ℕ} 0 1 = cc in absurd (omega arith)

-- a string that is over, or bad, is so whatever follows
settled : (v t : Text) (s : Inside) {r : Skip} → (r ≡ Unclosed → ⊥) → string_of s t ≡ r → string_of s (joined t v) ≡ r
unfolding string_of joined
settled v (stop p) s f e = absurd (f (sym e))
settled v (sign p b t) s {r} f e = by (λ s. settled v t s f) (inside_of s b p) e where
  by : ((s : Inside) → string_of s t ≡ r → string_of s (joined t v) ≡ r) → (m : Move) → moved m (λ s. string_of s t) (Past (p + 1)) ≡ r
      → moved m (λ s. string_of s (joined t v)) (Past (p + 1)) ≡ r
  by on (Go s) e = on s e
  by on Closed e = e
  by on (Wrong o) e = e

-- a text, then v, is a string to n
data Closes (s : Inside) (t : Text) : Type 0 where
  closes : (v : Text) (n : ℕ) → string_of s (joined t v) ≡ Past n → Closes s t

-- what is unclosed can be closed
closable : (t : Text) (s : Inside) → string_of s t ≡ Unclosed → Closes s t
unfolding string_of joined inside_of is_hex is_digit class_of upper_of
closable (stop p) Plain e = closes (sign 0 34 (stop 0)) 1 refl
closable (stop p) (Opened o) e = closes (sign 0 34 (sign 0 125 (sign 0 34 (stop 0)))) 1 refl
closable (stop p) (Shut o) e = closes (sign 0 125 (sign 0 34 (stop 0))) 1 refl
closable (stop p) (Ell o) e = closes (sign 0 76 (sign 0 125 (sign 0 34 (stop 0)))) 1 refl
closable (stop p) (Pair o) e = closes (sign 0 125 (sign 0 34 (stop 0))) 1 refl
closable (stop p) (Low o) e = closes (sign 0 48 (sign 0 125 (sign 0 34 (stop 0)))) 1 refl
closable (sign p b t) s e = by (closable t) (inside_of s b p) refl e where
  by : ((s : Inside) → string_of s t ≡ Unclosed → Closes s t) → (m : Move) → inside_of s b p ≡ m
      → moved m (λ s. string_of s t) (Past (p + 1))
      ≡ Unclosed → Closes s (sign p b t)
  by on (Go s') q e = one (on s' e) where
    one : Closes s' t → Closes s (sign p b t)
    one (closes v n h) = closes v n (rw q h)
  by on Closed q e = never e
  by on (Wrong o) q e = never_bad e

abbrev Never : Text → Type 0
Never t = (m : List Sign) (n : ℕ) → Spelt t m n → ⊥

no_string : {n : ℕ} {t : Text} → Never t → String n t → ⊥
no_string {n} h (says {m = m} s) = h m n s

-- BAD: a text is bad exactly when no text that starts with it is a string
pub bad_exactly : (t : Text) → ((o : ℕ) × (string_of Plain t ≡ Bad o)) ↔ ((v : Text) → Never (joined t v))
bad_exactly t = (
  λ b v m n s. let z : ◌≡◌ {A = ℕ} 0 1 = cc (string_complete s, settled v t Plain never_bad b.1) in omega arith,
  λ h. by h (string_of Plain t) refl,
) where
  by : ((v : Text) → Never (joined t v)) → (r : Skip) → string_of Plain t ≡ r → (o : ℕ) × (string_of Plain t ≡ Bad o)
  by h (Bad o) e = (o, e)
  by h (Past n) e = absurd (no_string (h (stop 0)) (string_sound (settled (stop 0) t Plain never e)))
  by h Unclosed e = on (closable t Plain e) where
    on : Closes Plain t → (o : ℕ) × (string_of Plain t ≡ Bad o)
    on (closes v n q) = absurd (no_string (h v) (string_sound q))

below : (o : ℕ) → o + 1 ≤ o → ⊥
below o h = omega arith

-- the places of a text from `at` on rise, so what follows a piece stands after its first byte
module _ (d : List ℕ) where
  later : {at n : ℕ} {t : Text} → at ≤ n → From d n t → From d at t
  later h at_stop = at_stop
  later {at} h (at_sign {p = p} i w e r) = let g : at ≤ p = omega arith in at_sign g w e r

  behind : {at p b : ℕ} {u : Text} → From d at (sign p b u) → From d at u
  behind {at} (at_sign {p = p} h w e r) = let g : at ≤ p + 1 = omega arith in later g r

  past_pairs : {at : ℕ} {t u : Text} {m : List Sign} → Pairs t m u → From d at t → From d at u
  past_pairs (last f h) r = behind (behind (behind r))
  past_pairs (more f h i) r = past_pairs i (behind (behind r))

  past_piece : {at : ℕ} {t u : Text} {m : List Sign} → Piece t m u → From d at t → From d at u
  past_piece (plain f h) r = behind r
  past_piece quote r = behind (behind (behind r))
  past_piece brace r = behind (behind (behind r))
  past_piece line r = behind (behind (behind (behind r)))
  past_piece (bytes i) r = past_pairs i (behind r)

  tail : {at p b : ℕ} {u : Text} → From d at (sign p b u) → From d (p + 1) u
  tail (at_sign h w e r) = r

  -- what follows a piece stands after its first byte
  past_first : {at p b : ℕ} {u w : Text} {m : List Sign} → Piece (sign p b u) m w → From d at (sign p b u) → From d (p + 1) w
  past_first (plain f h) r = tail r
  past_first quote r = behind (behind (tail r))
  past_first brace r = behind (behind (tail r))
  past_first line r = behind (behind (behind (tail r)))
  past_first (bytes i) r = past_pairs i (tail r)

  braced_from : {at o : ℕ} {t : Text} → Braced o t → From d at t → at ≤ o
  braced_from here (at_sign h w e r) = h
  braced_from (after_piece q b) r = braced_from b (past_piece q r)

  broken_at : {at o : ℕ} {t : Text} → Braced o t → From d at t → string_of Plain t ≡ Bad o → Broken o t
  broken_at {o = o} here r e = breaks (λ m w q. below o (braced_from (bad_place (sym (skip_piece q) ∙ e)) (past_first q r)))
  broken_at (after_piece q b) r e = breaks_after q (broken_at b (past_piece q r) (sym (skip_piece q) ∙ e))

-- the brace where no piece stands is the first that no piece explains
one_brace : {o p : ℕ} {t : Text} → Broken o t → Braced p t → string_of Plain t ≡ Bad p → string_of Plain t ≡ Bad o
one_brace (breaks f) here e = e
one_brace (breaks f) (after_piece {u = u} {m = m} q b) e = absurd (f m u q)
one_brace (breaks_after q r) b e = skip_piece q ∙ one_brace r (bad_place (sym (skip_piece q) ∙ e)) (sym (skip_piece q) ∙ e)

-- BAD AT: a string of a file is bad at o exactly when nothing that could follow makes it a string, and o is the first open brace
-- where no piece stands
pub bad_at_exactly : (d : List ℕ) (at o : ℕ) → (string_of Plain (text d at) ≡ Bad o) ↔
    (((v : Text) → Never (joined (text d at) v)) × Broken o (text d at))
bad_at_exactly d at o = (
  λ e. ((bad_exactly (text d at)).0 (o, e), broken_at d (bad_place e) (from_text d at) e),
  λ b. let e = (bad_exactly (text d at)).1 b.0 in one_brace b.1 (bad_place e.1) e.1,
)

-- UNCLOSED: a string is unclosed exactly when it is none, and something that could follow makes it one
pub unclosed_exactly : (t : Text) → (string_of Plain t ≡ Unclosed) ↔
    (Never t × ((v : Text) × (m : List Sign) × (n : ℕ) × Spelt (joined t v) m n))
unclosed_exactly t = (λ e. (λ m n s. never (sym (string_complete s) ∙ e), on (closable t Plain e)), λ h. by h (string_of Plain t) refl)
  where
    spelt : {n : ℕ} {u : Text} → String n u → (m : List Sign) × Spelt u m n
    spelt (says {m = m} s) = (m, s)

    on : Closes Plain t → (v : Text) × (m : List Sign) × (n : ℕ) × Spelt (joined t v) m n
    on (closes v n q) = let s = spelt (string_sound q) in (v, s.0, n, s.1)

    by : Never t × ((v : Text) × (m : List Sign) × (n : ℕ) × Spelt (joined t v) m n) → (r : Skip) → string_of Plain t ≡ r
        → string_of Plain t
        ≡ Unclosed
    by h Unclosed e = e
    by h (Past n) e = absurd (no_string h.0 (string_sound e))
    by h (Bad o) e = absurd ((bad_exactly t).0 (o, e) h.1.0 h.1.1 h.1.2 h.1.3)
