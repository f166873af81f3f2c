-- Attributes as they usually stand are attributes, and what a tag's turns make of them.
use mathlib.Core.Path.{◌≡◌, refl, sym, ap, ◌∙◌}
use mathlib.Core.Logic.{inl}
use mathlib.Core.Bool.{Bool, true, false}
use mathlib.Core.List.{List, [], ◌∷◌, ◌++◌}
use Prim.Native.Nat.{ℕ, ◌+◌, ◌-◌, ◌≤◌, ◌<◌}
use native.Mathlib.Omega.{arith}
use lib.Dec.{eqb}
use lib.ListN.{length, drop, get_or, drop_of_length-le}
use borrow.Author.Tests.{eq-eqb, ne_eqb, lt-leb}
use Rattle.utf.proofs.Strides.{drop_1}
use Rattle.markup.specs.rule.Bytes.{is_white, of_kind, stands}
use Rattle.markup.specs.rule.Grammar.{Each, no_more, each}
use Rattle.markup.specs.declared.Skip.TheVariants.{Past}
use Rattle.markup.proofs.Runs.{onward}
use Rattle.markup.proofs.Gaps.{stands_split}
use Rattle.markup.proofs.Stretches.{Stretch}
use Rattle.attributes.specs.rule.Attribute.{value_move, quoted_of}
use Rattle.attributes.proofs.Values.{value_next, value_stop, quoted_sound}
use Rattle.attributes.proofs.Exactly.{Attributed, attribute_exactly, plain, empty, shut_exactly}
use Rattle.tags.specs.rule.Tag.{is_named, slot_of, form_of, stretch_fits, put_of, shut_tag, turn_of, nothing_held}
use Rattle.tags.specs.Usual.{Usual, Valued, Given, EndAt, holding}
use Rattle.tags.specs.declared.Held.{Held}
use Rattle.tags.specs.declared.Turn.TheVariants.{More, Over}

-- ---- bytes that stand at a place, as a stretch of one kind
none_stretch : (f : ℕ → Bool) (d : List ℕ) (p q : ℕ) → q ≡ p → Stretch f d p q
none_stretch f d p q e = record { bytes = []; passes = no_more; split = rw e; place = omega arith }

byte_stretch : (f : ℕ → Bool) (d : List ℕ) (p b : ℕ) → p < length d → get_or d p 0 ≡ b → f b ≡ true → Stretch f d p (p + 1)
byte_stretch f d p b h e k = record { bytes = b ∷ []; passes = each k no_more; split = drop_1 d p h ∙ rw e; place = omega arith }

name_stretch : (d : List ℕ) (p : ℕ) (w : List ℕ) → Each (of_kind 1) w → stands w (drop p d) ≡ true → Stretch (of_kind 1) d p (p + length w)
name_stretch d p w r e =
    let s = stands_split w (drop p d) e in
    record {
      bytes = w;
      passes = r;
      split = s.1 ∙ ap (λ (t : List ℕ). w ++ t) (sym (onward d p (length w) w s.0 s.1 refl));
      place = refl;
    }

-- names byte by byte
pub each_next : (f : ℕ → Bool) (w : List ℕ) (i : ℕ) → i < length w → f (get_or w i 0) ≡ true → Each f (drop (i + 1) w) → Each f (drop i w)
each_next f w i h e r = rw (drop_1 w i h) (each e r)

pub each_over : (f : ℕ → Bool) (w : List ℕ) (i : ℕ) → length w ≤ i → Each f (drop i w)
each_over f w i h = rw (drop_of_length-le w h) no_more

space_white : of_kind 0 32 ≡ true
unfolding of_kind is_white
space_white = refl

-- ---- an attribute
module _ (d : List ℕ) (p : ℕ) (w : List ℕ) (k : ℕ) (u : Usual d p w) (v : Valued d (p + length w + 3) k) where
  attributed : Attributed d p (p + 1) (p + 1 + length w) (p + length w + 3) k (k + 1)
  attributed =
      let l = u.within in
      let q = u.quote in
      record {
        equals = p + 1 + length w;
        quote = p + 2 + length w;
        spaced = omega arith;
        before = byte_stretch (of_kind 0) d p 32 (omega arith) u.space space_white;
        starts = u.starts;
        name = name_stretch d (p + 1) w u.name u.there;
        gap = none_stretch (of_kind 0) d (p + 1 + length w) (p + 1 + length w) refl;
        there = omega arith;
        sign = u.equals;
        gap_2 = none_stretch (of_kind 0) d (p + 1 + length w + 1) (p + 2 + length w) (omega arith);
        inside = omega arith;
        quotes = inl q;
        value = rw q (quoted_sound true 0 34 d (p + length w + 3) k (v.ends true 0));
        place = omega arith;
        behind = refl;
      }

  pub usual_given : (form : ℕ) → stretch_fits form d (p + length w + 3) k ≡ true → Given d p w form k
  unfolding is_named
  usual_given form e =
      let l : p + 1 + length w - (p + 1) ≡ length w = omega arith in
      record {
        reads = λ bad opened. (attribute_exactly bad d opened p).1 attributed;
        named = rw (eq-eqb _ _ l, u.there);
        fits = e;
        within = v.within;
        inside = v.on;
      }

-- ---- a value byte by byte
module _ (d : List ℕ) (p : ℕ) where
  pub record Passing (i : ℕ) : Type 0 where
    pub again : (bad : Bool) (opened : ℕ) → quoted_of bad opened 34 d p ≡ quoted_of bad opened 34 d i
    pub on : p ≤ i
    pub within : i ≤ length d

  pub passing_none : p ≤ length d → Passing p
  passing_none h = record { again = λ bad opened. refl; on = omega arith; within = h }

  pub passing_next : (i b : ℕ) → Passing i → i < length d → get_or d i 0 ≡ b → (b ≡ 34 → ⊥) → (b ≡ 60 → ⊥) → (b ≡ 38 → ⊥) → Passing (i + 1)
  unfolding value_move
  passing_next i b x h e f g k =
      let o = x.on in
      record {
        again = λ bad opened. x.again bad opened
            ∙ value_next bad opened 34 d i (i + 1) (rw (lt-leb (length d) i h, e, ne_eqb b 34 f, ne_eqb b 60 g, ne_eqb b 38 k));
        on = omega arith;
        within = omega arith;
      }

  pub passing_over : (i : ℕ) → Passing i → i < length d → get_or d i 0 ≡ 34 → Valued d p i
  unfolding value_move
  passing_over i x h e = record {
    ends = λ bad opened. x.again bad opened ∙ value_stop bad opened 34 d i (Past i) (rw (lt-leb (length d) i h, e));
    on = x.on;
    within = h;
  }

-- ---- the tag's end
module _ (d : List ℕ) (p : ℕ) where
  pub end_plain : p < length d → get_or d p 0 ≡ 62 → EndAt d p 1
  end_plain h e = record {
    ends = λ bad opened. (shut_exactly bad d opened p).1 (plain (none_stretch (of_kind 0) d p p refl) h e);
    within = omega arith;
  }

  pub end_empty : p + 1 < length d → get_or d p 0 ≡ 47 → get_or d (p + 1) 0 ≡ 62 → EndAt d p 2
  end_empty h e f = record {
    ends = λ bad opened. (shut_exactly bad d opened p).1 (empty (none_stretch (of_kind 0) d p p refl) h e f);
    within = omega arith;
  }

-- ---- turns
module _ (bad : Bool) (d : List ℕ) (opened : ℕ) (x y z : List ℕ) (f g k required : ℕ) where
  pub turn_first : (p e : ℕ) → Given d p x f e → turn_of bad d opened x y z f g k required (nothing_held p)
      ≡ More (holding (p + length x + 3) e 0 0 (e + 1))
  unfolding turn_of slot_of form_of put_of
  turn_first p e v = rw (v.reads bad opened) (rw v.named (rw v.fits))

  pub turn_second : (a ae p e : ℕ) → Given d p y g e → is_named d (p + 1) (p + 1 + length y) x ≡ false
      → turn_of bad d opened x y z f g k required (holding a ae 0 0 p) ≡ More (holding a ae (p + length y + 3) e (e + 1))
  unfolding turn_of slot_of form_of put_of
  turn_second a ae p e v n = rw (v.reads bad opened) (rw (n, v.named) (rw v.fits))

  pub turn_end : (h : Held) (n : ℕ) → EndAt d h.next n → turn_of bad d opened x y z f g k required h
      ≡ Over (shut_tag required h (eqb n 2) h.next (h.next + n))
  unfolding turn_of
  turn_end h n e = rw (e.ends bad opened)
