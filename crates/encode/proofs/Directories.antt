-- A directory and its payloads, written segment by segment: an entry in front, a payload behind.
-- Assumes nothing.
use mathlib.Core.Path.{◌≡◌, refl, sym, ◌∙◌}
use mathlib.Core.List.{List, ◌++◌, append_assoc}
use Prim.Native.Nat.{ℕ, ◌+◌, ◌*◌, ◌<◌, ◌≤◌}
use native.Mathlib.Nat.{zero-add}
use native.Mathlib.Omega.{arith}
use lib.ListN.{length, length-append}
use lib.Seq.{sets, length-sets}
use Rattle.fields.specs.Le.{digits}
use Rattle.fields.proofs.Laws.{length_digits}
use Rattle.model.proofs.Sets.{sets-append}
use Rattle.model.specs.Tests.{flat, total}
use Rattle.model.proofs.Tests.{flat_step}
use Rattle.directory.specs.Directory.{directory_size}
use Rattle.directory.specs.Layout.{Plan, entry_layout, directory_layout}
use Rattle.directory.proofs.LaidOut.{entry_for, length-entry, length_entries}
use Rattle.emit.specs.Written.{Written}
use Rattle.emit.proofs.Storing.{sets_comm}
use Rattle.encode.specs.Headers.{entry_bytes}
use Rattle.encode.specs.Segments.{Placed}
use Rattle.encode.proofs.Headers.{tag_field}

entry_bytes_lem : (s : Plan) (n i : ℕ) → s.tag i < 256 → entry_bytes (entry_for s n i) ≡ entry_layout s n i
unfolding entry_bytes entry_layout
entry_bytes_lem s n i h = rw (tag_field (s.tag i) h)

-- i entries stand behind the four bytes of count and segments, and i payloads behind the room for n entries; the next one goes to at
pub record Laying (s : Plan) (part : ℕ → List ℕ) (n i : ℕ) (before : List ℕ) (at : ℕ) (out : List ℕ) : Type 0 where
  pub upto : i ≤ n
  pub place : at ≡ directory_size n + length (flat part i)
  pub stands : out ≡ sets (sets before 4 (flat (entry_layout s n) i)) (directory_size n) (flat part i)

module _ (s : Plan) (part : ℕ → List ℕ) (n : ℕ) (before : List ℕ) where
  pub laying_start : {at : ℕ} → at ≡ directory_size n → Laying s part n 0 before at before
  unfolding flat
  laying_start e = record { upto = omega arith; place = omega arith; stands = refl }

  module _ {i at : ℕ} {out : List ℕ} (l : Laying s part n i before at out) where
    pub laying_length : length out ≡ length before
    laying_length = rw l.stands (length-sets (sets before 4 (flat (entry_layout s n) i)) (directory_size n) (flat part i) ∙ length-sets before 4 (flat (entry_layout s n) i))

    pub laying_next : {out' : List ℕ} {r : ℕ} → i < n → s.tag i < 256 → Placed (4 + 16 * i) at (entry_for s n i) (part i) out out' r → Laying s part n (i + 1) before r out'
    laying_next {out'} {r} h t w =
        let es = flat (entry_layout s n) i in
        let ps = flat part i in
        let e = entry_layout s n i in
        let d = directory_size n in
        let size : length es ≡ 16 * i = length_entries s n i in
        let one : length e ≡ 16 = length-entry s n i in
        let all : w.between ≡ sets (sets before 4 es) d (ps ++ part i) = w.body.stands ∙ rw (l.stands, l.place) (sym (sets-append ps (part i) (sets before 4 es) d)) in
        let front : sets (sets (sets before 4 es) d (ps ++ part i)) (4 + 16 * i) e ≡ sets (sets (sets before 4 es) (4 + 16 * i) e) d (ps ++ part i) = sets_comm e (ps ++ part i) (sets before 4 es) (4 + 16 * i) d (omega arith) in
        let more : sets (sets before 4 es) (4 + 16 * i) e ≡ sets before 4 (es ++ e) = rw (← size) (sym (sets-append es e before 4)) in
        record {
          upto = omega arith;
          place = rw (flat_step part i, length-append ps (part i)) (omega (arith, w.body.behind, l.place));
          stands = w.entry.stands ∙ rw (all, entry_bytes_lem s n i t, front, more, flat_step (entry_layout s n) i, flat_step part i);
        }

    -- count and segments are written last, or first: the four bytes in front
    pub laying_end : {out' : List ℕ} {q : ℕ} → n ≤ i → Written (digits 2 (total s.count n) ++ digits 2 n) 0 out out' q → Written (directory_layout s n ++ flat part n) 0 before out' at
    unfolding directory_layout
    laying_end {out'} {q} h w =
        let es = flat (entry_layout s n) n in
        let ps = flat part n in
        let head = digits 2 (total s.count n) ++ digits 2 n in
        let d = directory_size n in
        let e : i ≡ n = omega (arith, l.upto) in
        let four : length head ≡ 4 = simp (length-append, length_digits) in
        let size : length es ≡ 16 * n = length_entries s n n in
        let st : out ≡ sets (sets before 4 es) d ps = rw e at l.stands in
        let pl : at ≡ d + length ps = rw e at l.place in
        let a : sets (sets (sets before 4 es) d ps) 0 head ≡ sets (sets (sets before 4 es) 0 head) d ps = sets_comm head ps (sets before 4 es) 0 d (omega arith) in
        let b : sets (sets before 4 es) 0 head ≡ sets (sets before 0 head) 4 es = sets_comm head es before 0 4 (omega arith) in
        let m : sets (sets before 0 head) 4 es ≡ sets before 0 (head ++ es) = sym (sets-append head es before 0 ∙ rw (four, zero-add)) in
        let f : length (head ++ es) ≡ d = length-append head es ∙ omega arith in
        record {
          stands = w.stands ∙ rw (st, a, b, m, ← append_assoc) (sym (sets-append (head ++ es) ps before 0 ∙ rw (f, zero-add)));
          behind = rw (← append_assoc, length-append (head ++ es) ps, f, zero-add) pl;
        }
