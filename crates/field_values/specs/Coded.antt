-- A set's text read in one walk: codes of one to four digits with no zero in front, joined by semicolons, are what export writes for them.
use Rattle.std.specs.Prelude.{◌≡◌, refl, true, cond, List, [], ◌∷◌, ◌++◌, ℕ, zero, suc, ◌+◌, ◌-◌, ◌*◌, ◌/◌, ◌%◌, ◌≤◌, ◌<◌}
use Rattle.std.specs.Prelude.{eqb, ℤ, pos, negsuc, length, take, drop, get_or, set}
use Rattle.std.proofs.Common.{sym, ap, ◌∙◌, append-nil, append_assoc, add-one, arith, ne_eqb, drop_of_length-le, drop-cons}
use Rattle.std.proofs.Common.{take-suc-set}
use Rattle.lines.specs.rule.Text.{numeral}
use Rattle.value_fields.specs.rule.Values.{export_number, codes_behind, set_text}
use Rattle.value_fields.specs.Numeral.{numeral_one, numeral_more}
use Rattle.field_values.specs.Guess.{AreCodes, code_text, set_back}
use Rattle.field_values.specs.rule.Read.{set_guess, left_of}
use Rattle.field_values.specs.rule.Value.{whole}
use Rattle.field_values.specs.Left.{is_left}

-- codes, each with its semicolon
unfoldable pub ended : List ℤ → List ℕ
ended [] = []
ended (m ∷ ms) = export_number 0 m ++ ((59 ∷ []) ++ ended ms)

-- the digits of a code so far
unfoldable pub begun : ℕ → List ℕ
begun n = cond (eqb n 0) [] (numeral n)

begun_none : begun 0 ≡ []
unfolding begun
begun_none = refl

begun_some : (n : ℕ) → (n ≡ 0 → ⊥) → begun n ≡ numeral n
unfolding begun
begun_some n h = rw (ne_eqb n 0 h)

behind_last : (ms : List ℤ) (n : ℕ) → codes_behind (ms ++ (pos n ∷ [])) ≡ (59 ∷ []) ++ (ended ms ++ numeral n)
unfolding codes_behind ended
behind_last [] n = ap (λ (s : List ℕ). 59 ∷ s) (append-nil (export_number 0 (pos n)) ∙ code_text n)
behind_last (m ∷ ms) n =
    ap (λ (s : List ℕ). 59 ∷ (export_number 0 m ++ s)) (behind_last ms n)
    ∙ ap (λ (s : List ℕ). 59 ∷ s) (sym (append_assoc (export_number 0 m) ((59 ∷ []) ++ ended ms) (numeral n)))

pub text_last : (ms : List ℤ) (n : ℕ) → set_text (ms ++ (pos n ∷ [])) ≡ ended ms ++ numeral n
unfolding set_text codes_behind ended
text_last [] n = append-nil (export_number 0 (pos n)) ∙ code_text n
text_last (m ∷ ms) n =
    ap (λ (s : List ℕ). export_number 0 m ++ s) (behind_last ms n)
    ∙ sym (append_assoc (export_number 0 m) ((59 ∷ []) ++ ended ms) (numeral n))

pub ended_more : (ms : List ℤ) (n : ℕ) → ended (ms ++ (pos n ∷ [])) ≡ ended ms ++ (numeral n ++ (59 ∷ []))
unfolding ended
ended_more [] n = ap (λ (s : List ℕ). s ++ (59 ∷ [])) (code_text n)
ended_more (m ∷ ms) n =
    ap (λ (s : List ℕ). export_number 0 m ++ ((59 ∷ []) ++ s)) (ended_more ms n)
    ∙ sym (append_assoc (export_number 0 m) ((59 ∷ []) ++ ended ms) (numeral n ++ (59 ∷ [])))

codes_more : (ms : List ℤ) (n : ℕ) → n ≤ 9999 → AreCodes ms → AreCodes (ms ++ (pos n ∷ []))
codes_more [] n h c = (h, tt)
codes_more (pos m ∷ ms) n h c = (c.0, codes_more ms n h c.1)
codes_more (negsuc m ∷ ms) n h c = absurd c

-- one digit more
begun_more : (n b m : ℕ) (s : List ℕ) → 48 ≤ b → b ≤ 57 → m ≡ n * 10 + (b - 48) → m ≤ 9999 → (m ≡ 0 → ⊥) → begun n ++ (b ∷ s) ≡ begun m ++ s
begun_more zero b m s h l e f z =
    let d : 48 + m ≡ b = omega (arith, e) in
    rw (begun_none, begun_some m z, numeral_one m (omega (arith, e)), d)
begun_more (suc n) b m s h l e f z =
    let q : m / 10 ≡ suc n = omega (arith, e) in
    let d : 48 + m % 10 ≡ b = omega (arith, e) in
    rw (begun_some (suc n) (λ x. omega arith), begun_some m z, numeral_more m (omega (arith, e)) (omega arith), q, d)
    (sym (append_assoc (numeral (suc n)) (b ∷ []) s))

-- what a digit makes of a code, or 0
pub record Stepped (n b r : ℕ) : Type 0 where
  pub few : r ≤ 9999
  pub low : (r ≡ 0 → ⊥) → 48 ≤ b
  pub high : (r ≡ 0 → ⊥) → b ≤ 57
  pub is : (r ≡ 0 → ⊥) → r ≡ n * 10 + (b - 48)

pub stepped_none : (n b : ℕ) → Stepped n b 0
stepped_none n b = record { few = omega arith; low = λ h. absurd (h refl); high = λ h. absurd (h refl); is = λ h. absurd (h refl) }

pub stepped_some : (n b : ℕ) → 48 ≤ b → b ≤ 57 → n * 10 + (b - 48) ≤ 9999 → Stepped n b (n * 10 + (b - 48))
stepped_some n b l h f = record { few = f; low = λ z. l; high = λ z. h; is = λ z. refl }

-- the codes before a place stand in the list, and the digits of the next one so far
pub record Coding (f : List ℕ) (list : List ℤ) (count n i : ℕ) : Type 0 where
  pub inside : i ≤ length f
  pub few : n ≤ 9999
  pub codes : AreCodes (take count list)
  pub reads : f ≡ ended (take count list) ++ (begun n ++ drop i f)

pub coding_none : (f : List ℕ) (list : List ℤ) → Coding f list 0 0 0
unfolding ended begun
coding_none f list = record { inside = omega arith; few = omega arith; codes = tt; reads = refl }

-- WHAT WAS READ: no code, or codes whose text the field is
pub record Coded (f : List ℕ) (list : List ℤ) (r : ℕ) : Type 0 where
  pub few : r ≤ 9999
  pub codes : (r ≡ 0 → ⊥) → AreCodes (take r list)
  pub text : (r ≡ 0 → ⊥) → set_text (take r list) ≡ f

pub coded_none : (f : List ℕ) (list : List ℤ) → Coded f list 0
coded_none f list = record { few = omega arith; codes = λ h. absurd (h refl); text = λ h. absurd (h refl) }

next_byte : (s : List ℕ) (i : ℕ) → i < length s → drop i s ≡ get_or s i 0 ∷ drop (i + 1) s
next_byte s i h = drop-cons s i 0 h ∙ rw (add-one i)

module _ {f : List ℕ} {list : List ℤ} {count n i : ℕ} (g : Coding f list count n i) where
  pub coding_digit : {m : ℕ} → i < length f → Stepped n (get_or f i 0) m → (m ≡ 0 → ⊥) → Coding f list count m (i + 1)
  coding_digit {m} h s z =
      let b = get_or f i 0 in
      record {
        inside = omega arith;
        few = s.few;
        codes = g.codes;
        reads = g.reads
            ∙ ap (λ (u : List ℕ). ended (take count list) ++ u)
            (ap (λ (u : List ℕ). begun n ++ u) (next_byte f i h)
            ∙ begun_more n b m (drop (i + 1) f) (s.low z) (s.high z) (s.is z) s.few z);
      }

  module _ (some : n ≡ 0 → ⊥) (low : count < length list) {z : ℤ} (is : z ≡ pos n) where
    taken : take (count + 1) (set list count z) ≡ take count list ++ (pos n ∷ [])
    taken = rw (add-one count, is) (take-suc-set list count (pos n) low)

    codes_taken : AreCodes (take (count + 1) (set list count z))
    codes_taken = rw taken (codes_more (take count list) n g.few g.codes)

    pub coding_code : i < length f → get_or f i 0 ≡ 59 → Coding f (set list count z) (count + 1) 0 (i + 1)
    coding_code h e =
        let ms = take count list in
        let u = drop (i + 1) f in
        let a : drop i f ≡ 59 ∷ u = next_byte f i h ∙ ap (λ (b : ℕ). b ∷ u) e in
        let k : ended ms ++ (numeral n ++ (59 ∷ u)) ≡ ended (take (count + 1) (set list count z)) ++ u =
        sym (ap (λ (x : List ℤ). ended x ++ u) taken ∙ ap (λ (x : List ℕ). x ++ u) (ended_more ms n)
        ∙ append_assoc (ended ms) (numeral n ++ (59 ∷ [])) u ∙ ap (λ (x : List ℕ). ended ms ++ x) (append_assoc (numeral n) (59 ∷ []) u)) in
        record {
          inside = omega arith;
          few = omega arith;
          codes = codes_taken;
          reads = g.reads ∙ ap (λ (x : List ℕ). ended ms ++ x)
              (ap (λ (x : List ℕ). x ++ drop i f) (begun_some n some) ∙ ap (λ (x : List ℕ). numeral n ++ x) a) ∙ k
              ∙ ap (λ (x : List ℕ). ended (take (count + 1) (set list count z)) ++ (x ++ u)) (sym begun_none);
        }

    pub coded_all : length f ≤ i → count < 9999 → Coded f (set list count z) (count + 1)
    coded_all h l = record {
      few = omega arith;
      codes = λ x. codes_taken;
      text = λ x.
          ap set_text taken ∙ text_last (take count list) n
          ∙ sym (g.reads ∙ ap (λ (u : List ℕ). ended (take count list) ++ u)
          (ap (λ (u : List ℕ). begun n ++ u) (drop_of_length-le f h) ∙ append-nil (begun n) ∙ begun_some n some));
    }

-- ---- the set of a field that was read so
module _ {f : List ℕ} {list : List ℤ} {r : ℕ} (c : Coded f list r) (some : r ≡ 0 → ⊥) where
  pub coded_guess : take r list ≡ set_guess f
  coded_guess = sym (set_back (take r list) (c.codes some)) ∙ ap set_guess (c.text some)

  pub coded_left : true ≡ left_of 0 f f
  coded_left = sym (is_left 0 f f (whole refl))
