-- Theorems of specs/Whole.antt, kept here: a wrong definition is refused by them.
use Rattle.std.specs.Prelude.{◌≡◌, Bool, ◌&&◌, ◌||◌, ℕ, ◌+◌, ◌*◌, ◌≤◌, ltb, leb, ℤ, take}
use Rattle.std.proofs.Math.Path.{refl, sym}
use Rattle.std.proofs.Common.{ap, ◌∙◌, arith, lt-ltb, le-ltb, leb-true, leb-false}
use Rattle.std.proofs.Math.Bool.{true, false, cond}
use mathlib.Core.List.{List, [], ◌∷◌}
use Rattle.std.proofs.Math.ListN.{length}
use Rattle.std.proofs.lemmas.List.Edits.{sets}
use Rattle.below.specs.Below.{and_left, and_right, or_true}
use Rattle.sound.specs.rule.Sound.{well_formed}
use Rattle.sound.specs.rule.Rows.{length_of}
use Rattle.cuts.specs.declared.Terminator.{Terminator}
use Rattle.pieces.specs.rule.Pieces.{Piece, cut_from, pieces_of}
use Rattle.pieces.specs.Laid.{pieces_laid}
use Rattle.mends.specs.declared.Sizes.{Sizes}
use Rattle.mends.specs.declared.Mended.TheVariants as M
use Rattle.mends.specs.rule.Mend.{ending_of, width_of}
use Rattle.mends.specs.rule.Mend.{mend_entries, entry_numbers}
use Rattle.mends.specs.rule.Mend.{width_of_records, bytes_in, list_in, done, refused, mend_said, mended_as, kept_or_new, Mends}
use Rattle.places.specs.rule.Places.{put, run}
use Rattle.std.proofs.Math.Seq.{take-length}
use Rattle.mends.specs.Stores.{sets_front, put_sets}
use Rattle.mends.specs.Sizes.{kept_in, short_in, others_in, sizes_width, sizes_kept, sizes_others, sizes_short}
use Rattle.mends.specs.Sizes.{length_numbers, length_mended}
use Rattle.mends.proofs.Counted.{length_entries}
use Rattle.mends.specs.Mend.{Ends, Measured, start}
use Rattle.mends.specs.Whole.{Counts, unlisted}

pub said_list : {t : List ℤ} {d : List ℕ} {e : Terminator} {z : Sizes} → Ends d e → Counts t d e z
    → entry_numbers (mend_entries z.width e 1 0 (cut_from 0 d)) ≡ entry_numbers (list_in t d)
unfolding list_in pieces_of
said_list f c = rw (c.width, f.is)

neither : (q : Bool) → ◌≡◌ {A = ℕ} (cond q 0 0) 0
neither true = refl
neither false = refl

pub counts : (t : List ℤ) (d : List ℕ) (e : Terminator) (z : Sizes) → Ends d e → Measured d e (length_of t) z → Counts t d e z
unfolding width_of_records bytes_in list_in pieces_of
counts t d e z f m =
    let ps : List Piece = cut_from 0 d in
    let w : z.width ≡ width_of (length_of t) ps = ap (λ (x : Sizes). x.width) m.is ∙ sizes_width e (start (length_of t)) ps in
    let k : z.kept ≡ kept_in ps = ap (λ (x : Sizes). x.kept) m.is ∙ sizes_kept e (start (length_of t)) ps ∙ omega arith in
    let o : z.others ≡ others_in e ps = ap (λ (x : Sizes). x.others) m.is ∙ sizes_others e (start (length_of t)) ps ∙ omega arith in
    let s : z.short ≡ short_in (width_of (length_of t) ps) ps =
    ap (λ (x : Sizes). x.short) m.is ∙ sizes_short e (start (length_of t)) ps
    ∙ rw (neither (ltb (length_of t) (width_of (length_of t) ps))) (omega arith) in
    record {
      width = w;
      bytes =
          rw (← f.is, w, k)
          (sym (length_mended (width_of (length_of t) ps) (length_of t) e ps f.sized (omega arith)));
      entries =
          rw (← f.is, o, s)
          (sym (length_entries (width_of (length_of t) ps) e 1 0 ps));
    }

room_says : (room cells b n : ℕ) (q : Bool) → leb n cells && leb b room ≡ q → (ltb room b || ltb cells n) ≡ cond q false true
room_says room cells b n q h = go (leb n cells) refl (leb b room) refl q h
  where
    go : (x : Bool) → leb n cells ≡ x → (y : Bool) → leb b room ≡ y → (q : Bool) → x && y ≡ q → (ltb room b || ltb cells n)
        ≡ cond q false true
    go true x true y q h = rw (sym h, le-ltb room b (leb-true b room y), le-ltb cells n (leb-true n cells x))
    go true x false y q h = rw (sym h, lt-ltb room b (leb-false b room y))
    go false x y z q h = rw (sym h, lt-ltb cells n (leb-false n cells x)) (or_true (ltb room b))

module _ (t : List ℤ) (d out : List ℕ) (list : List ℤ) where
  pub mends_bad : well_formed t ≡ false → Mends t d out out list list M.BadTable
  unfolding mend_said mended_as kept_or_new
  mends_bad h = record { says = rw h; mended = rw h; listed = rw h }

  module _ (h : well_formed t ≡ true) (e : Terminator) (z : Sizes) (c : Counts t d e z) where
    rooms : (q : Bool) → leb (3 * (z.others + z.short)) (length list) && leb (z.kept * (z.width + e.size)) (length out) ≡ q
        → mended_as t d (length out) (length list) ≡ cond q (done (length (bytes_in t d)) (length (list_in t d))) (refused 70)
    unfolding mended_as
    rooms q r =
        let r' = rw (c.bytes, c.entries) at r in
        rw (h, room_says (length out) (length list) (length (bytes_in t d)) (3 * length (list_in t d)) q r') (turn q)
      where
        turn : (q : Bool) → cond (cond q false true) (refused 70) (done (length (bytes_in t d)) (length (list_in t d)))
            ≡ cond q (done (length (bytes_in t d)) (length (list_in t d))) (refused 70)
        turn true = refl
        turn false = refl

    pub mends_short : leb (3 * (z.others + z.short)) (length list) && leb (z.kept * (z.width + e.size)) (length out) ≡ false
        → Mends t d out out list list M.NoRoom
    unfolding mend_said kept_or_new
    mends_short r = let m = rooms false r in record { says = sym m; mended = rw m; listed = rw m }

    module _ (r : leb (3 * (z.others + z.short)) (length list) && leb (z.kept * (z.width + e.size)) (length out) ≡ true) where
      pub room_out : length (bytes_in t d) ≤ length out
      room_out = rw (← c.bytes) (leb-true _ _ (and_right (leb (3 * (z.others + z.short)) (length list)) _ r))

      pub room_list : length (entry_numbers (list_in t d)) ≤ length list
      room_list = rw (length_numbers (list_in t d), ← c.entries)
          (leb-true _ _ (and_left (leb (3 * (z.others + z.short)) (length list)) _ r))

      pub mends_done : (out' : List ℕ) (list' : List ℤ) → out' ≡ sets out 0 (bytes_in t d) → list'
          ≡ sets list 0 (entry_numbers (list_in t d))
          → Mends t d out out' list list' (M.Done (z.kept * (z.width + e.size)) (z.others + z.short))
      unfolding mend_said kept_or_new
      mends_done out' list' a b = let m = rooms true r in record {
        says = rw (m, c.bytes, c.entries);
        mended = rw m (a ∙ sets_front out (bytes_in t d) room_out);
        listed = rw m (b ∙ sets_front list (entry_numbers (list_in t d)) room_list);
      }

      none_left : {A : Type 0} (l : List A) → length l ≡ 0 → l ≡ []
      none_left [] z = refl
      none_left (x ∷ l) z = absurd (omega arith)

      -- nothing to list: the input is copied
      bytes_same : Ends d e → z.others + z.short ≡ 0 → bytes_in t d ≡ d
      unfolding bytes_in width_of_records list_in pieces_of
      bytes_same f n =
          let k : others_in (ending_of d) (cut_from 0 d) + short_in (width_of (length_of t) (cut_from 0 d)) (cut_from 0 d) ≡ 0 =
          sym (length_entries (width_of (length_of t) (cut_from 0 d)) (ending_of d) 1 0 (cut_from 0 d)) ∙ sym c.entries ∙ n in
          unlisted (width_of (length_of t) (cut_from 0 d)) (length_of t) (ending_of d) (cut_from 0 d) (rw f.is at f.sized) (omega arith) k
          ∙ pieces_laid d

      pub room_copy : Ends d e → z.others + z.short ≡ 0 → length d ≤ length out
      room_copy f n = let b : length (bytes_in t d) ≡ length d = ap length (bytes_same f n) in omega (arith, b, room_out)

      pub mends_stored : Ends d e → z.others + z.short ≡ 0 → (out' : List ℕ) → out' ≡ sets out 0 d
          → Mends t d out out' list list (M.Done (z.kept * (z.width + e.size)) (z.others + z.short))
      unfolding entry_numbers
      mends_stored f n out' a =
          let s = bytes_same f n in
          let l : list_in t d ≡ [] = none_left (list_in t d) (sym c.entries ∙ n) in
          mends_done out' list (a ∙ rw s) (rw l)

      pub mends_copied : Ends d e → z.others + z.short ≡ 0 → (out' : List ℕ) → out' ≡ put out (run 0 (length d)) (take (length d) d)
          → Mends t d out out' list list (M.Done (z.kept * (z.width + e.size)) (z.others + z.short))
      unfolding entry_numbers
      mends_copied f n out' a =
          let s = bytes_same f n in
          let l : list_in t d ≡ [] = none_left (list_in t d) (sym c.entries ∙ n) in
          mends_done out' list (a ∙ rw (take-length d, put_sets out 0 d (length d) refl, s)) (rw l)
