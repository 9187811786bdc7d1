-- `encode::local_rows` meets its contract, tag by tag.
-- Assumes nothing.
use mathlib.Core.Bool.{true, false}
use native.Mathlib.Omega.{arith}
use borrow.Author.Rules.{rules}
use Rattle.forms.specs.Forms.{list_tag, runs_tag}
use Rattle.encode.proofs.Headers.{written_none}
use Rattle.encode.proofs.Locals.{local_list, local_runs, local_bitmap, local_missing, local_none, rising_wide, bitmap_room, room_same, written_same}
use Rattle.encode.proofs.local_rows.Goals as goal

pub list_rows-requires : goal.list_rows-requires
unfolding list_tag
list_rows-requires g c = (rising_wide (omega arith) c.requires.0, room_same _ _ (local_list _ _ true c.in-2.is) c.requires.2)

pub list_rows-requires-in-3 : goal.list_rows-requires-in-3
unfolding list_tag
list_rows-requires-in-3 g c = (rising_wide (omega arith) c.requires.0, room_same _ _ (local_list _ _ false c.in-3.is) c.requires.2)

pub runs_rows-requires : goal.runs_rows-requires
unfolding runs_tag
runs_rows-requires g c = (rising_wide (omega arith) c.requires.0, c.requires.1, room_same _ _ (local_runs _ _ false c.in-4.is) c.requires.2)

pub runs_rows-requires-in-5 : goal.runs_rows-requires-in-5
unfolding runs_tag
runs_rows-requires-in-5 g c = (rising_wide (omega arith) c.requires.0, c.requires.1, room_same _ _ (local_runs _ _ true c.in-5.is) c.requires.2)

pub bitmap_rows-requires : goal.bitmap_rows-requires
bitmap_rows-requires g c = (c.requires.0, bitmap_room _ _ _ _ _ c.in-6.is c.requires.0 c.requires.2)

pub missing_rows-requires : goal.missing_rows-requires
missing_rows-requires g c = (c.requires.0, room_same _ _ (local_missing _ _ c.in-7.is) c.requires.2)

pub returns-in-2 : goal.returns-in-2
unfolding list_tag
returns-in-2 g c = written_same (local_list _ _ true c.in-2.is) c.list_rows.ensures

pub returns-in-3 : goal.returns-in-3
unfolding list_tag
returns-in-3 g c = written_same (local_list _ _ false c.in-3.is) c.list_rows-in-3.ensures

pub returns-in-4 : goal.returns-in-4
unfolding runs_tag
returns-in-4 g c = written_same (local_runs _ _ false c.in-4.is) c.runs_rows.ensures

pub returns-in-5 : goal.returns-in-5
unfolding runs_tag
returns-in-5 g c = written_same (local_runs _ _ true c.in-5.is) c.runs_rows-in-5.ensures

pub returns-in-6 : goal.returns-in-6
returns-in-6 g c = written_same (local_bitmap _ _ c.in-6.is) c.bitmap_rows.ensures

pub returns-in-7 : goal.returns-in-7
returns-in-7 g c = written_same (local_missing _ _ c.in-7.is) c.missing_rows.ensures

pub returns-in_default : goal.returns-in_default
returns-in_default g c = written_none _ _ (local_none _ _ _ (search rules) (search rules) (search rules) (search rules) (search rules) (search rules))
