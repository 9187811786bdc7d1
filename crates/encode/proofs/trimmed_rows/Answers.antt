-- `encode::trimmed_rows` meets its contract: one of two headers, and the local layout behind it.
-- Assumes nothing.
use mathlib.Core.Path.{sym}
use native.Mathlib.Omega.{arith}
use lib.ListN.{length-map}
use Rattle.model.proofs.Rising.{rising_ends}
use Rattle.encode.proofs.Wholes.{ends_in, bitmap_own, missing_own, bitmap_head, missing_head, rest_room, both-written}
use Rattle.encode.proofs.trimmed_rows.Goals as goal

pub extent-span-requires : goal.extent-span-requires
extent-span-requires g c =
    let e = ends_in _ _ c.requires.0 in
    let l = length-map c.args.rows.now g.R.Row.number in
    rw (c.row_at-first.ensures, c.row_at.ensures, ← l) (e.1, omega (arith, e.0, e.2))

pub bitmap_header-p-requires : goal.bitmap_header-p-requires
bitmap_header-p-requires g c =
    let n = sym (length-map c.args.rows.now g.R.Row.number) in
    let b = rw c.row_at-first.ensures at c.position-base.ensures in
    let e = rw (c.row_at-first.ensures, c.row_at.ensures, n) at c.extent-span.ensures in
    bitmap_head _ _ c.requires.0 b e n c.if-tag-eq6.true c.requires.2

pub local_rows-requires : goal.local_rows-requires
local_rows-requires g c =
    let n = sym (length-map c.args.rows.now g.R.Row.number) in
    let b = rw c.row_at-first.ensures at c.position-base.ensures in
    let e = rw (c.row_at-first.ensures, c.row_at.ensures, n) at c.extent-span.ensures in
    rw c.row_at-first.ensures (rising_ends c.requires.0.rising e, c.requires.1, rest_room _ _ (bitmap_own _ _ c.requires.0 b e n c.if-tag-eq6.true) c.bitmap_header-p.ensures c.requires.2)

pub returns-then-tag-eq6 : goal.returns-then-tag-eq6
returns-then-tag-eq6 g c =
    let n = sym (length-map c.args.rows.now g.R.Row.number) in
    let b = rw c.row_at-first.ensures at c.position-base.ensures in
    let e = rw (c.row_at-first.ensures, c.row_at.ensures, n) at c.extent-span.ensures in
    both-written _ _ (bitmap_own _ _ c.requires.0 b e n c.if-tag-eq6.true) c.bitmap_header-p.ensures (rw c.row_at-first.ensures at c.local_rows.ensures)

pub missing_header-p-requires : goal.missing_header-p-requires
missing_header-p-requires g c =
    let n = sym (length-map c.args.rows.now g.R.Row.number) in
    let b = rw c.row_at-first.ensures at c.position-base.ensures in
    let e = rw (c.row_at-first.ensures, c.row_at.ensures, n) at c.extent-span.ensures in
    missing_head _ _ c.requires.0 b e n c.if-tag-eq6.false c.requires.2

pub local_rows-requires-2 : goal.local_rows-requires-2
local_rows-requires-2 g c =
    let n = sym (length-map c.args.rows.now g.R.Row.number) in
    let b = rw c.row_at-first.ensures at c.position-base.ensures in
    let e = rw (c.row_at-first.ensures, c.row_at.ensures, n) at c.extent-span.ensures in
    rw c.row_at-first.ensures (rising_ends c.requires.0.rising e, c.requires.1, rest_room _ _ (missing_own _ _ c.requires.0 b e n c.if-tag-eq6.false) c.missing_header-p.ensures c.requires.2)

pub returns : goal.returns
returns g c =
    let n = sym (length-map c.args.rows.now g.R.Row.number) in
    let b = rw c.row_at-first.ensures at c.position-base.ensures in
    let e = rw (c.row_at-first.ensures, c.row_at.ensures, n) at c.extent-span.ensures in
    both-written _ _ (missing_own _ _ c.requires.0 b e n c.if-tag-eq6.false) c.missing_header-p.ensures (rw c.row_at-first.ensures at c.local_rows-2.ensures)
