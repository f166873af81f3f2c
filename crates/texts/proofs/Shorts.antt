-- Brace forms of one sign whose bytes stand side by side, and hex pairs: told at once.
use mathlib.Core.Path.{◌≡◌, refl, ◌∙◌, sym, ap}
use mathlib.Core.Bool.{Bool, true, false, ◌||◌}
use mathlib.Core.List.{List, ◌∷◌}
use Prim.Native.Nat.{ℕ, ◌+◌, ◌≤◌, ◌<◌}
use native.Mathlib.Omega.{arith}
use lib.Dec.{eqb}
use lib.ListN.{length, get_or}
use borrow.Author.Tests.{eqb-true, eq-eqb, ne_eqb, lt-ltb}
use Rattle.below.specs.Below.{lt_or_le}
use mathlib.Core.Logic.{inl, inr, ⊎_elim}
use Rattle.ascii.specs.rule.Class.{class_of, upper_of}
use Rattle.signs.specs.declared.Sign.{Sign}
use Rattle.signs.specs.declared.Sign.TheVariants.{Byte, Break}
use Rattle.scan.specs.rule.Text.{Text, stop, sign, text}
use Rattle.scan.specs.rule.Number.{is_digit}
use Rattle.scan.proofs.Texts.{text_kept, kept_byte}
use Rattle.scan.proofs.Orders.{digit_bounds}
use Rattle.marks.specs.declared.Inside.{Inside}
use Rattle.marks.specs.declared.Inside.TheVariants.{Plain, Pair, Low}
use Rattle.marks.specs.rule.Marks.{is_hex, inside_of}
use Rattle.marks.specs.rule.Spelling.{hex_pair, gives_of, decode_of}
use Rattle.marks.proofs.Complete.{before}
use Rattle.marks.proofs.Parts.{hex_letter}
use Rattle.texts.specs.Measured.{is_mark, completes, measure_from, Says, form_sign, Form, FormEnd}

-- what `Says` has, of a hex pair at n behind whose first digit the reader stands, in a form that opened at o
record PairSays (d : List ℕ) (o n : ℕ) (x : Sign) (m : ℕ) (t : Inside) : Type 0 where
  pub hex : is_hex (get_or d n 0) ≡ true
  pub split : decode_of (Low o) (get_or d n 0) (text d (n + 1)) ≡ x ∷ decode_of t 0 (text d m)
  pub counts : (c : ℕ) → measure_from (Low o) c (text d (n + 1)) ≡ measure_from t (c + 1) (text d m)
  pub ahead : n + 1 < m
  pub within : m ≤ length d

-- a hex digit is kept, and is no byte that is none
hex_kept : (a : ℕ) → is_hex a ≡ true → 32 ≤ a
unfolding upper_of
hex_kept a h = by (is_digit a) refl where
  low : is_digit a ≡ false → a < 32 → 32 ≤ a
  low f l = let k = hex_letter a f h in let u : upper_of a ≡ a = rw (lt-ltb a 97 (omega arith)) in absurd (omega arith)

  by : (x : Bool) → is_digit a ≡ x → 32 ≤ a
  by true f = omega (arith, digit_bounds a f)
  by false f = ⊎_elim (low f) (λ l. l) (lt_or_le a 32)

hex_not : (a k : ℕ) → is_hex k ≡ false → is_hex a ≡ true → eqb a k ≡ false
hex_not a k f h = ne_eqb a k (λ e. let z : true ≡ false = sym h ∙ ap is_hex e ∙ f in let y : ◌≡◌ {A = ℕ} 0 1 = cc in absurd (omega arith))

others : (a : ℕ) → is_hex a ≡ true → (eqb a 34 ≡ false) × (eqb a 123 ≡ false) × (eqb a 78 ≡ false) × (eqb a 125 ≡ false)
unfolding is_hex is_digit class_of upper_of
others a h = (hex_not a 34 refl h, hex_not a 123 refl h, hex_not a 78 refl h, hex_not a 125 refl h)

mark_not : (b : ℕ) → is_mark b ≡ true → eqb b 78 ≡ false
mark_not b m = ne_eqb b 78 (λ e. let z : true ≡ false = sym m ∙ ap is_mark e in let y : ◌≡◌ {A = ℕ} 0 1 = cc in absurd (omega arith))

module _ (d : List ℕ) where
  -- what stands at a place where a byte of 32 or above does
  here : (n b : ℕ) → n < length d → get_or d n 0 ≡ b → 32 ≤ b → text d n ≡ sign n b (text d (n + 1))
  here n b h e k = rw (← e) (text_kept d n h (kept_byte (get_or d n 0) (rw e k)))

  -- ---- hex pairs
  -- the reader comes to a pair's first digit
  pair_says : (o n : ℕ) → n + 2 ≤ length d → {x : Sign} {m : ℕ} {t : Inside} → PairSays d o n x m t → Says d (Pair o) n x m t
  unfolding decode_of gives_of inside_of measure_from completes
  pair_says o n h p =
      let q = others (get_or d n 0) p.hex in
      let t = here n (get_or d n 0) (omega arith) refl (hex_kept (get_or d n 0) p.hex) in
      record {
        split = rw (t, q.3, p.hex) p.split;
        counts = λ c. let z : c + 0 ≡ c = omega arith in rw (t, q.3, p.hex, z) (p.counts c);
        ahead = omega (arith, p.ahead);
        within = p.within;
      }

  -- a pair, and a closing brace behind it or not
  module _ (o n : ℕ) (h : n + 2 ≤ length d) (f : is_hex (get_or d n 0) ≡ true) (g : is_hex (get_or d (n + 1) 0) ≡ true) where
    second : text d (n + 1) ≡ sign (n + 1) (get_or d (n + 1) 0) (text d (n + 2))
    second = let y : n + 1 + 1 ≡ n + 2 = omega arith in
        rw (← y) (here (n + 1) (get_or d (n + 1) 0) (omega arith) refl (hex_kept (get_or d (n + 1) 0) g))

    pair_on : PairSays d o n (Byte (hex_pair (get_or d n 0) (get_or d (n + 1) 0))) (n + 2) (Pair o)
    unfolding decode_of gives_of inside_of measure_from completes
    pair_on = record {
      hex = f;
      split = rw (second, g) (ap (λ r. Byte (hex_pair (get_or d n 0) (get_or d (n + 1) 0)) ∷ r)
          (idle_pair (get_or d (n + 1) 0) (text d (n + 2))));
      counts = λ c. rw (second, g);
      ahead = omega arith;
      within = omega arith;
    } where
      idle_pair : (y : ℕ) (t : Text) → decode_of (Pair o) y t ≡ decode_of (Pair o) 0 t
      idle_pair y (stop p) = refl
      idle_pair y (sign p b t) = refl

    pair_shut : n + 3 ≤ length d → get_or d (n + 2) 0 ≡ 125
        → PairSays d o n (Byte (hex_pair (get_or d n 0) (get_or d (n + 1) 0))) (n + 3) Plain
    unfolding decode_of gives_of inside_of measure_from completes
    pair_shut l e =
        let y : n + 2 + 1 ≡ n + 3 = omega arith in
        let t : text d (n + 2) ≡ sign (n + 2) 125 (text d (n + 3)) = rw (← y) (here (n + 2) 125 (omega arith) e (omega arith)) in
        record {
          hex = f;
          split = rw (second, g, t, before 125 0 (text d (n + 3)));
          counts = λ c. let z : c + 1 + 0 ≡ c + 1 = omega arith in rw (second, g, t, z);
          ahead = omega arith;
          within = omega arith;
        }

    -- PAIR: one more pair of a form
    pub pair_step : Says d (Pair o) n (Byte (hex_pair (get_or d n 0) (get_or d (n + 1) 0))) (n + 2) (Pair o)
    pair_step = pair_says o n h pair_on

  -- ---- forms
  module _ (n : ℕ) (h : n + 4 ≤ length d) (o : get_or d n 0 ≡ 123) where
    two : (b : ℕ) → get_or d (n + 1) 0 ≡ b → 32 ≤ b → text d n ≡ sign n 123 (sign (n + 1) b (text d (n + 1 + 1)))
    two b e k = here n 123 (omega arith) o (omega arith) ∙ ap (sign n 123) (here (n + 1) b (omega arith) e k)

    three : (b c : ℕ) → get_or d (n + 1) 0 ≡ b → 32 ≤ b → get_or d (n + 2) 0 ≡ c → 32 ≤ c → text d n
        ≡ sign n 123 (sign (n + 1) b (sign (n + 2) c (text d (n + 3))))
    three b c e k f l =
        let x : n + 1 + 1 ≡ n + 2 = omega arith in
        let y : n + 2 + 1 ≡ n + 3 = omega arith in
        rw (← y) (two b e k ∙ rw x (ap (λ t. sign n 123 (sign (n + 1) b t)) (here (n + 2) c (omega arith) f l)))

    -- {NL}
    line_says_lem : get_or d (n + 1) 0 ≡ 78 → get_or d (n + 2) 0 ≡ 76 → get_or d (n + 3) 0 ≡ 125 → Says d Plain n Break (n + 4) Plain
    unfolding decode_of gives_of inside_of measure_from completes
    line_says_lem e f g =
        let y : n + 3 + 1 ≡ n + 4 = omega arith in
        let t : text d n ≡ sign n 123 (sign (n + 1) 78 (sign (n + 2) 76 (sign (n + 3) 125 (text d (n + 4))))) =
        three 78 76 e (omega arith) f (omega arith)
        ∙ rw (← y) (ap (λ t. sign n 123 (sign (n + 1) 78 (sign (n + 2) 76 t))) (here (n + 3) 125 (omega arith) g (omega arith))) in
        record {
          split = rw (t, before 125 0 (text d (n + 4)));
          counts = λ c. let z : c + 0 + 0 + 1 + 0 ≡ c + 1 = omega arith in rw (t, z);
          ahead = omega arith;
          within = h;
        }

    -- {"} and {{}
    closed : (b : ℕ) → 32 ≤ b → get_or d (n + 1) 0 ≡ b → get_or d (n + 2) 0 ≡ 125 → text d n
        ≡ sign n 123 (sign (n + 1) b (sign (n + 2) 125 (text d (n + 3))))
    closed b k e g = three b 125 e k g (omega arith)

    quote_says : get_or d (n + 1) 0 ≡ 34 → get_or d (n + 2) 0 ≡ 125 → Says d Plain n (Byte 34) (n + 3) Plain
    unfolding decode_of gives_of inside_of measure_from completes
    quote_says e g = let t = closed 34 (omega arith) e g in record {
      split = rw (t, before 125 0 (text d (n + 3)));
      counts = λ c. let z : c + 0 + 1 + 0 ≡ c + 1 = omega arith in rw (t, z);
      ahead = omega arith;
      within = omega arith;
    }

    brace_says : get_or d (n + 1) 0 ≡ 123 → get_or d (n + 2) 0 ≡ 125 → Says d Plain n (Byte 123) (n + 3) Plain
    unfolding decode_of gives_of inside_of measure_from completes
    brace_says e g = let t = closed 123 (omega arith) e g in record {
      split = rw (t, before 125 0 (text d (n + 3)));
      counts = λ c. let z : c + 0 + 1 + 0 ≡ c + 1 = omega arith in rw (t, z);
      ahead = omega arith;
      within = omega arith;
    }

    mark_says : {b : ℕ} → get_or d (n + 1) 0 ≡ b → is_mark b ≡ true → get_or d (n + 2) 0 ≡ 125 → Says d Plain n (Byte b) (n + 3) Plain
    mark_says {b} e m g = by (eqb b 34) (eqb b 123) refl refl m where
      by : (x y : Bool) → eqb b 34 ≡ x → eqb b 123 ≡ y → (x || y) ≡ true → Says d Plain n (Byte b) (n + 3) Plain
      by true y p q m = let k : b ≡ 34 = eqb-true b 34 p in rw k (quote_says (e ∙ k) g)
      by false true p q m = let k : b ≡ 123 = eqb-true b 123 q in rw k (brace_says (e ∙ k) g)
      by false false p q m = let z : ◌≡◌ {A = ℕ} 0 1 = cc in absurd (omega arith)

    -- a form of hex pairs
    form_says : {x : Sign} {m : ℕ} {t : Inside} → PairSays d n (n + 1) x m t → Says d Plain n x m t
    unfolding decode_of gives_of inside_of measure_from completes
    form_says p =
        let a : ℕ = get_or d (n + 1) 0 in
        let q = others (get_or d (n + 1) 0) p.hex in
        let t = two (get_or d (n + 1) 0) refl (hex_kept (get_or d (n + 1) 0) p.hex) in
        record {
          split = rw (t, q.0, q.1, q.2, p.hex) p.split;
          counts = λ c. let z : c + 0 + 0 ≡ c = omega arith in rw (t, q.0, q.1, q.2, p.hex, z) (p.counts c);
          ahead = omega (arith, p.ahead);
          within = p.within;
        }

    -- FORM: as the code tells them
    pub mark_form : is_mark (get_or d (n + 1) 0) ≡ true → get_or d (n + 2) 0 ≡ 125 → Form d n (n + 3)
    unfolding form_sign
    mark_form m g = record {
      says = rw (mark_not (get_or d (n + 1) 0) m, m) (mark_says refl m g);
      room = omega arith;
      hex = λ f k. let z : true ≡ false = sym m ∙ k in let y : ◌≡◌ {A = ℕ} 0 1 = cc in absurd (omega arith);
    }

    pub line_form : get_or d (n + 1) 0 ≡ 78 → get_or d (n + 2) 0 ≡ 76 → get_or d (n + 3) 0 ≡ 125 → Form d n (n + 4)
    unfolding form_sign
    line_form e f g = record {
      says = rw (eq-eqb (get_or d (n + 1) 0) 78 e) (line_says_lem e f g);
      room = omega arith;
      hex = λ k m. absurd (k e);
    }

    pub pair_form : (get_or d (n + 1) 0 ≡ 78 → ⊥) → is_mark (get_or d (n + 1) 0) ≡ false → is_hex (get_or d (n + 1) 0) ≡ true
        → is_hex (get_or d (n + 2) 0) ≡ true → get_or d (n + 3) 0 ≡ 125 → Form d n (n + 4)
    unfolding form_sign
    pair_form k m f g e =
        let x : n + 1 + 1 ≡ n + 2 = omega arith in
        let y : n + 1 + 2 ≡ n + 3 = omega arith in
        let z : n + 1 + 3 ≡ n + 4 = omega arith in
        let p = form_says (pair_shut n (n + 1) (omega arith) f (rw x g) (omega arith) (rw y e)) in
        record {
          says = rw (ne_eqb (get_or d (n + 1) 0) 78 k, m) (rw (x, z) at p);
          room = omega arith;
          hex = λ k m. (f, g);
        }

-- a place that is not the form's own is its end
pub was_form : {d : List ℕ} {n m : ℕ} → FormEnd d n m → (m ≡ n → ⊥) → Form d n m
was_form (inl e) k = absurd (k e)
was_form (inr f) k = f
