-- `assemble::body_rows` meets its contract: segmented, trimmed or plain.
-- Assumes nothing.
use native.Mathlib.Omega.{arith}
use lib.ListN.{length-map}
use Rattle.assemble.proofs.Bodies.{segments_ask, trimmed_ask, runs_known, plain_ask, segments_laid, trimmed_laid, plain_laid}
use Rattle.assemble.proofs.body_rows.Goals as goal

pub segmented_rows-requires : goal.segmented_rows-requires
segmented_rows-requires g c = segments_ask c.requires c.if-f-eq9.true

pub returns-then-f-eq9 : goal.returns-then-f-eq9
returns-then-f-eq9 g c = segments_laid c.if-f-eq9.true c.segmented_rows.ensures

pub trimmed_rows-requires : goal.trimmed_rows-requires
trimmed_rows-requires g c = let a = trimmed_ask c.requires c.if-f-eq9.false c.if-f.true in (a.0, rw (← length-map c.args.rows.now g.R.Row.number) a.1, a.2)

pub returns-then-f : goal.returns-then-f
returns-then-f g c = trimmed_laid c.if-f-eq9.false c.if-f.true c.trimmed_rows.ensures

pub overflow_cast-all : goal.overflow_cast-all
overflow_cast-all g c = omega (arith, runs_known c.requires)

pub plain_rows-requires : goal.plain_rows-requires
plain_rows-requires g c = let a = plain_ask c.requires c.if-f-eq9.false c.if-f.false in (a.0, rw (← length-map c.args.rows.now g.R.Row.number) a.1, a.2, a.3)

pub returns : goal.returns
returns g c = plain_laid c.if-f-eq9.false c.if-f.false c.plain_rows.ensures
