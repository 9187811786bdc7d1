-- Two of document 01's bodies, asked by the definitions that the calls' contracts name. That every body of document 01 is accepted or refused,
-- and names its rows, is the table of the crate `demands`.
-- Assumes nothing.
use mathlib.Core.Path.{◌≡◌, refl}
use mathlib.Core.List.{List, [], ◌∷◌}
use Prim.Native.Nat.{ℕ}
use Rattle.fields.specs.Le.{le}
use Rattle.model.specs.Tests.{both, pick, all, tabulate, flat, total}
use Rattle.model.specs.Lists.{counted, has, below, rank_of, shift}
use Rattle.search.specs.Search.{entry}
use Rattle.lists.specs.Lists.{list_accepts, list_names, rises_below, climbs}
use Rattle.directory.specs.Directory.{directory_accepts, segments_fit, segment_fits, is_local, entry_of, part_of, end_before, names_of, piece_of}
use Rattle.forms.specs.Forms.{by_tag, local_accepts, local_names}
use Rattle.single.specs.Single.{fit, view_of, named_in, single_names}
use Rattle.segmented.specs.Segmented.{segmented_accepts, segmented_names, part_accepts, part_names}
use Rattle.bodies.specs.Bodies.{accepts, names}
use Rattle.bodies.specs.Accepted.{list_body}
use Rattle.rowset.specs.Calls.{asked, rank_answer, select_answer, walk_left, segment_answer, values_of}
use Rattle.model.specs.Answers.{accepted, over}
use Rattle.directory.specs.Directory as directory-specs

-- [0,10), 3 4 5: tag 3
abbrev list : List ℕ
list = 3 ∷ 0 ∷ 4 ∷ 0 ∷ 5 ∷ 0 ∷ []

-- [0,200000), 100000 + 100i, twelve rows: tag 9, 44 bytes
abbrev segmented : List ℕ
segmented = 12 ∷ 0 ∷ 1 ∷ 0 ∷ 160 ∷ 134 ∷ 1 ∷ 0 ∷ 77 ∷ 4 ∷ 12 ∷ 0 ∷ 0 ∷ 0 ∷ 20 ∷ 0 ∷ 24 ∷ 0 ∷ 3 ∷ 0 ∷ 0 ∷ 0 ∷ 100 ∷ 0 ∷ 200 ∷ 0 ∷ 44 ∷ 1 ∷ 144 ∷ 1 ∷ 244 ∷ 1 ∷ 88 ∷ 2 ∷ 188 ∷ 2 ∷ 32 ∷ 3 ∷ 132 ∷ 3 ∷ 232 ∷ 3 ∷ 76 ∷ 4 ∷ []

-- asked: the ordinal of 4 is 1, 7 is no row; the ordinal 2 is 5, and 3 is past the end; a walk from 1 on

list_rank : rank_answer 3 10 list 4 ≡ accepted (1 ∷ [])
unfolding rank_answer rank_of has below asked accepts list_body names single_names view_of named_in local_accepts local_names by_tag counted shift both pick fit list_accepts list_names rises_below climbs all tabulate entry le
list_rank = refl

list_no_rank : rank_answer 3 10 list 7 ≡ accepted []
unfolding rank_answer rank_of has below asked accepts list_body names single_names view_of named_in local_accepts local_names by_tag counted shift both pick fit list_accepts list_names rises_below climbs all tabulate entry le
list_no_rank = refl

list_select : select_answer 3 10 list 2 ≡ accepted (5 ∷ [])
unfolding select_answer asked accepts list_body names single_names view_of named_in local_accepts local_names by_tag counted shift both pick fit list_accepts list_names rises_below climbs all tabulate entry le
list_select = refl

list_no_select : select_answer 3 10 list 3 ≡ accepted []
unfolding select_answer asked accepts list_body names single_names view_of named_in local_accepts local_names by_tag counted shift both pick fit list_accepts list_names rises_below climbs all tabulate entry le
list_no_select = refl

list_walk : walk_left 3 10 list 1 (9 ∷ 9 ∷ 9 ∷ []) ≡ 4 ∷ 5 ∷ 9 ∷ []
unfolding walk_left over asked accepts list_body names single_names view_of named_in local_accepts local_names by_tag counted shift both pick fit list_accepts list_names rises_below climbs all tabulate entry le
list_walk = refl

segmented_rank : rank_answer 9 200000 segmented 100300 ≡ accepted (3 ∷ [])
unfolding rank_answer rank_of has below asked accepts list_body names single_names view_of named_in local_accepts local_names by_tag counted shift both pick segmented_accepts segmented_names part_accepts part_names directory_accepts segments_fit segment_fits directory-specs.fits is_local entry_of part_of end_before total names_of piece_of flat fit list_accepts list_names rises_below climbs all tabulate entry le
segmented_rank = refl

segmented_entry : segment_answer 9 200000 segmented 0 ≡ accepted (100000 ∷ 1101 ∷ 12 ∷ 0 ∷ 20 ∷ 24 ∷ 3 ∷ [])
unfolding segment_answer values_of asked accepts list_body names single_names view_of named_in local_accepts local_names by_tag counted shift both pick segmented_accepts segmented_names part_accepts part_names directory_accepts segments_fit segment_fits directory-specs.fits is_local entry_of part_of end_before total names_of piece_of flat fit list_accepts list_names rises_below climbs all tabulate entry le
segmented_entry = refl
