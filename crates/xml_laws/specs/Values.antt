-- VALUES THAT WERE READ ARE FINE: a range and lines whose charges are all clear, whatever is behind them.
use Rattle.std.specs.Prelude.{◌≡◌, ◌⊎◌, Bool, not, ◌&&◌}
use Rattle.std.proofs.Math.Path.{refl}
use Rattle.std.proofs.Common.{inr, length-append}
use Rattle.std.proofs.Math.Logic.{inl}
use Rattle.std.proofs.Math.Bool.{true, false, cond}
use mathlib.Core.List.{List, [], ◌∷◌, ◌++◌}
use Rattle.std.proofs.Math.Option.{none, some}
use Prim.Native.Nat.{ℕ, zero, suc, ◌+◌, ◌≤◌, ◌<◌}
use native.Mathlib.Omega.{arith}
use Rattle.std.proofs.Math.ListN.{length}
use Rattle.std.specs.Int.Signed.{lt_z}
use Rattle.below.specs.Below.{and_true, and_left, and_right}
use Rattle.cells.specs.rule.Cell.{eq_z}
use borrow.Author.Tests.{leb-false, not-false}
use Rattle.layout.specs.rule.Layout.{most_lines}
use Rattle.scan.specs.rule.Loop.{Next, Again, Done}
use Rattle.tags.specs.rule.Tag.{tag_of, is_named}
use Rattle.pairs.specs.rule.Stand.{bare_of}
use Rattle.values.specs.Good.{GoodValues, GoodLine}
use Rattle.survey.specs.rule.Survey.{Amount, Range, Line, Block}
use Rattle.survey.specs.rule.Width.{some_of, each_of, amounts, scaled}
use Rattle.reading.specs.rule.Result.{Is, Reader, bind, turn, repeat}
use Rattle.reading.specs.rule.Least.{Charge}
use Rattle.reading.specs.rule.Values.{form_is, large, unlike_amounts, line_charges, with_line, range_from, unlisted}
use Rattle.bridge.specs.Lowest.{never, Clear, clear}
use Rattle.xml_reading.specs.rule.Word.{VALUES, RANGE, VALUE, FROM, TO, CODE}
use Rattle.xml_reading.specs.rule.Open.{Open, start, shut, within_element, misplaced, either_element, due, unknown_at}
use Rattle.xml_reading.specs.rule.Open.{nothing, enter}
use Rattle.xml_reading.specs.rule.Element.{chars_of, amount_in, body}
use Rattle.xml_reading.specs.rule.Block.{rich, pair_charges, range, line, lined, on_open, another_line, first, values}
use Rattle.xml_bridge.specs.Book.{said_as, saids, is_ranged, block_as}
use Rattle.xml_bridge.specs.Fine.{Sound, amount_sound, Fine, fine_none, fine_range, fine_line, fine_values}
use Rattle.elements.proofs.Bounds.{tag_within}
use Rattle.xml_laws.specs.Reads.{judged_is, moved, clear_tail, clear_right, opened, bound, nothing_long, body_long}
use Rattle.xml_laws.specs.Reads.{within_long, misplaced_never}

module _ (bad : Bool) (d : List ℕ) (long : length d ≤ 1048576) where
  -- ---- a range
  pub record Ranged (quantity : Bool) (r : Range) (n : ℕ) : Type 0 where
    pub from : Sound quantity r.from
    pub to : Sound quantity r.to
    pub alike : unlike_amounts r.from r.to ≡ false
    pub ordered : lt_z (scaled r.to) (scaled r.from) ≡ false
    pub next : n ≤ length d

  charged : (quantity : Bool) (a b : Amount) (l : List Charge) → Clear (pair_charges quantity a b ++ l)
      → (form_is quantity a ≡ true) × (form_is quantity b ≡ true) × (unlike_amounts a b ≡ false) × (lt_z (scaled b) (scaled a) ≡ false)
      × (large quantity a ≡ false) × (large quantity b ≡ false)
  unfolding pair_charges
  charged quantity a b l (clear x (clear y (clear z (clear w (clear u (clear v r)))))) =
      let f = not-false (form_is quantity a) x in
      let g = not-false (form_is quantity b) y in
      (f, g, both (unlike_amounts a b) f g z, both (lt_z (scaled b) (scaled a)) f g w, u, v)
    where
      both : (q : Bool) → form_is quantity a ≡ true → form_is quantity b ≡ true → ((form_is quantity a && form_is quantity b) && q) ≡ false
          → q
          ≡ false
      both q f g e = rw (f, g) at e

  pub range_fine : (quantity : Bool) (p e : ℕ) {r : Range} {n : ℕ} → range bad d quantity p e ≡ Is r n → Ranged quantity r n
  unfolding range amount_in
  range_fine quantity p e {r} {n} f =
      let o = opened bad d (tag_of bad d p e FROM TO [] 2 2 0 2) _ r n f in
      let h = o.held in
      let a = amount_in d h.a h.ae in
      let c = amount_in d h.b h.be in
      let b = bound (nothing bad d RANGE o.empty o.next) _ r n o.then_is in
      let j = judged_is (pair_charges quantity a c ++ unknown_at h.unknown ∷ b.value) (range_from a c) b.place b.then_is in
      let k = charged quantity a c (unknown_at h.unknown ∷ b.value) j.2 in
      let t = tag_within bad d p FROM TO [] 2 2 0 2 e h o.empty o.place o.next o.tag_is in
      let m = nothing_long bad d RANGE o.empty o.next t.2 b.first_is
      (clear_tail (clear_right (pair_charges quantity a c) (unknown_at h.unknown ∷ b.value) j.2)) in
      moved (Ranged quantity) j.0 j.1 (record {
        from = amount_sound quantity h.a h.ae (chars_of d h.a h.ae) k.0 k.4;
        to = amount_sound quantity h.b h.be (chars_of d h.b h.be) k.1 k.5;
        alike = k.2;
        ordered = k.3;
        next = m;
      })

  -- ---- a line
  pub record Listed (quantity : Bool) (before : ℕ) (b : Block) (x : Line) (n : ℕ) : Type 0 where
    pub sound : Sound quantity x.value
    pub alike : some_of (unlike_amounts x.value) (amounts b) ≡ false
    pub fresh : some_of (λ l. eq_z (scaled l.value) (scaled x.value)) b.lines ≡ false
    pub few : before + length b.lines < 4096
    pub good : GoodLine (said_as x)
    pub plain : x.special ≡ false
    pub next : n ≤ length d

  line_charged : (quantity : Bool) (before : ℕ) (b : Block) (a : Amount) (l : List Charge) → Clear (line_charges quantity before b a ++ l)
      → (form_is quantity a ≡ true) × (some_of (unlike_amounts a) (amounts b) ≡ false)
      × (some_of (λ l. eq_z (scaled l.value) (scaled a)) b.lines ≡ false)
      × (large quantity a ≡ false) × (before + length b.lines < 4096)
  unfolding line_charges
  line_charged quantity before b a l (clear x (clear y (clear z (clear w (clear u r))))) =
      (not-false (form_is quantity a) x, y, z, w, leb-false most_lines (before + length b.lines) u)

  pub line_fine : (languages quantity : Bool) (before : ℕ) (b : Block) (p e : ℕ) {x : Line} {n : ℕ}
      → line bad d languages quantity before b p e ≡ Is x n → Listed quantity before b x n
  unfolding line amount_in
  line_fine languages quantity before b p e {x} {n} f =
      let o = opened bad d (tag_of bad d p e CODE [] [] 2 0 0 1) _ x n f in
      let h = o.held in
      let a = amount_in d h.a h.ae in
      let c = bound (body bad d VALUE (rich languages) o.empty o.next) _ x n o.then_is in
      let j = judged_is (line_charges quantity before b a ++ unknown_at h.unknown ∷ c.value.charges)
      (record { value = a; text = c.value.text; special = false }) c.place c.then_is in
      let k = line_charged quantity before b a (unknown_at h.unknown ∷ c.value.charges) j.2 in
      let t = tag_within bad d p CODE [] [] 2 0 0 1 e h o.empty o.place o.next o.tag_is in
      let y = body_long bad d VALUE (rich languages) o.empty o.next t.2 c.first_is
      (clear_tail (clear_right (line_charges quantity before b a) (unknown_at h.unknown ∷ c.value.charges) j.2)) in
      let i = y.inside in
      moved (Listed quantity before b) j.0 j.1 (record {
        sound = amount_sound quantity h.a h.ae (chars_of d h.a h.ae) k.0 k.3;
        alike = k.1;
        fresh = k.2;
        few = k.4;
        good = record { special = omega arith; text_place = omega arith; text_length = omega arith };
        plain = refl;
        next = y.next;
      })

  -- ---- a block so far, and where reading stands
  pub record Sofar (quantity : Bool) (before : ℕ) (b : Block) (n : ℕ) : Type 0 where
    pub fine : Fine quantity before b
    pub some : (is_ranged b.range ≡ true) ⊎ (1 ≤ length b.lines)
    pub plain : each_of (λ s. not s.special) b.lines ≡ true
    pub next : n ≤ length d

  each_last : (l : List Line) (x : Line) → each_of (λ s. not s.special) l ≡ true → x.special ≡ false
      → each_of (λ s. not s.special) (l ++ x ∷ []) ≡ true
  unfolding each_of
  each_last [] x h e = rw e
  each_last (y ∷ l) x h e = and_true (not y.special) _ (and_left (not y.special) _ h)
      (each_last l x (and_right (not y.special) _ h) e)

  module _ (languages quantity : Bool) (before : ℕ) (low : before ≤ 4096) where
    lined_fine : (b : Block) (p e : ℕ) {c : Block} {n : ℕ} → Fine quantity before b → each_of (λ s. not s.special) b.lines ≡ true
        → lined bad d languages quantity before b p e ≡ Is c n → Sofar quantity before c n
    lined_fine b p e {c} {n} g s f =
        let o = bound (line bad d languages quantity before b p e) _ c n f in
        let x = line_fine languages quantity before b p e o.first_is in
        let q : with_line b o.value ≡ c = cc in
        let r : o.place ≡ n = cc in
        moved (Sofar quantity before) q r (record {
          fine = fine_line quantity before b o.value g x.sound x.alike x.fresh x.few x.good;
          some = inr (omega (arith, length-append b.lines (o.value ∷ [])));
          plain = each_last b.lines o.value s x.plain;
          next = x.next;
        })

    -- behind a start tag that is due
    named_then : {A : Type 0} (w : List ℕ) (p n : ℕ) (k : ℕ → Reader A) {a : A} {m : ℕ} → due bad d w (start p) k n ≡ Is a m → k p n
        ≡ Is a m
    named_then {A} w p n k {a} {m} f = by (is_named d (p + 1) n w) f where
      by : (q : Bool) → cond q (k p n) (misplaced bad d {A = A} p n) ≡ Is a m → k p n ≡ Is a m
      by true f = f
      by false f = misplaced_never bad d p n f

    first_fine : (e : ℕ) {b : Block} {n : ℕ} → first bad d languages quantity before e ≡ Is b n → Sofar quantity before b n
    unfolding first each_of
    first_fine e {b} {n} f =
        let o = bound (within_element bad d VALUES e) _ b n f in
        by o.value o.place o.then_is
      where
        by : (x : Open) (k : ℕ)
            → either_element bad d RANGE x (λ p m. bind (range bad d quantity p m) λ r m. Is (unlisted (some r)) m)
            (due bad d VALUE x (lined bad d languages quantity before (unlisted none))) k ≡ Is b n
            → Sofar quantity before b n
        by (shut p) k f = never cc
        by (start p) k f = on (is_named d (p + 1) k RANGE) f where
          on : (q : Bool) → cond q (bind (range bad d quantity p k) λ r m. Is (unlisted (some r)) m)
              (due bad d VALUE (start p) (lined bad d languages quantity before (unlisted none)) k) ≡ Is b n → Sofar quantity before b n
          on true f =
              let o = bound (range bad d quantity p k) _ b n f in
              let r = range_fine quantity p k o.first_is in
              let q : unlisted (some o.value) ≡ b = cc in
              let z : o.place ≡ n = cc in
              moved (Sofar quantity before) q z (record {
                fine = fine_range quantity before o.value.from o.value.to low r.from r.to r.alike r.ordered;
                some = inl refl;
                plain = refl;
                next = r.next;
              })
          on false f = lined_fine (unlisted none) p k (fine_none quantity before low) refl
              (named_then VALUE p k (lined bad d languages quantity before (unlisted none)) f)

    -- another line keeps it so
    data Kept : Next Block Block → ℕ → Type 0 where
      onward : {c : Block} {n : ℕ} → Sofar quantity before c n → Kept (Again c) n
      over : {c : Block} {n : ℕ} → Sofar quantity before c n → Kept (Done c) n

    step_fine : (b : Block) (e : ℕ) → Sofar quantity before b e → {x : Next Block Block} {n : ℕ}
        → another_line bad d languages quantity before b e ≡ Is x n → Kept x n
    unfolding another_line
    step_fine b e s {x} {n} f =
        let o = bound (within_element bad d VALUES e) _ x n f in
        by o.value o.place (within_long bad d VALUES e o.first_is).1 o.then_is
      where
        by : (z : Open) (k : ℕ) → k ≤ length d → on_open bad d languages quantity before b z k ≡ Is x n → Kept x n
        by (shut p) k l f =
            let q : Done b ≡ x = cc in
            let r : k ≡ n = cc in
            moved Kept q r (over (record { fine = s.fine; some = s.some; plain = s.plain; next = l }))
        by (start p) k l f =
            let g = named_then VALUE p k (λ p n. bind (lined bad d languages quantity before b p n) λ c m. Is (Again c) m) f in
            let o = bound (lined bad d languages quantity before b p k) _ x n g in
            let q : Again o.value ≡ x = cc in
            let r : o.place ≡ n = cc in
            moved Kept q r (onward (lined_fine b p k s.fine s.plain o.first_is))

    lines_fine : (f : ℕ) (b : Block) (e : ℕ) → Sofar quantity before b e → {c : Block} {n : ℕ}
        → repeat f (another_line bad d languages quantity before) b e ≡ Is c n → Sofar quantity before c n
    unfolding repeat
    lines_fine zero b e s g = never cc
    lines_fine (suc f) b e s {c} {n} g =
        let o = bound (another_line bad d languages quantity before b e) _ c n g in
        by o.value (step_fine b e s o.first_is) o.then_is (λ x k t q. lines_fine f x k t q)
      where
        by : (x : Next Block Block) {k : ℕ} → Kept x k → turn (repeat f (another_line bad d languages quantity before)) x k ≡ Is c n
            → ((b : Block) (e : ℕ) → Sofar quantity before b e → repeat f (another_line bad d languages quantity before) b e ≡ Is c n
            → Sofar quantity before c n)
            → Sofar quantity before c n
        by (Again y) {k} (onward t) g ih = ih y k t g
        by (Done y) {k} (over t) g ih =
            let q : y ≡ c = cc in
            let r : k ≡ n = cc in
            moved (Sofar quantity before) q r t

    -- THE WHOLE BLOCK
    pub values_fine : (p e : ℕ) {b : Block} {n : ℕ} → values bad d languages quantity before p e ≡ Is b n → Sofar quantity before b n
    unfolding values
    values_fine p e {b} {n} f =
        let o = opened bad d (bare_of bad d p e) _ b n f in
        let x = bound (enter bad d (unknown_at o.held.unknown ∷ []) o.empty o.place o.next) _ b n o.then_is in
        let y = bound (first bad d languages quantity before x.place) _ b n x.then_is in
        lines_fine (suc most_lines) y.value y.place (first_fine x.place y.first_is) y.then_is

  pub good_values : {quantity : Bool} {before n : ℕ} {b : Block} → Sofar quantity before b n
      → GoodValues quantity before (block_as b) (saids b.lines)
  good_values {quantity} {before} {b = b} s = fine_values quantity before b s.fine s.some
