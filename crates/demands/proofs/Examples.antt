-- Document 01's starred examples, one table under one statement, by computation.
-- Assumes nothing.
use mathlib.Core.Path.{◌≡◌, refl}
use mathlib.Core.Bool.{true}
use Rattle.fields.specs.Le.{le, digits}
use Rattle.model.specs.Tests.{both, pick, all, tabulate, flat, total}
use Rattle.model.specs.Lists.{counted, has, shift, range, below, complement, onto, runs_of, positions_of}
use Rattle.word.specs.Bits.{named, bits_from, num_from}
use Rattle.search.specs.Search.{entry}
use Rattle.lists.specs.Lists.{dense_accepts, list_accepts, list_names, list_layout, rises_below, climbs}
use Rattle.missing.specs.Missing.{missing_accepts, missing_names, missing_layout}
use Rattle.runs.specs.Runs.{runs_bytes, runs_layout, runs_accepts, runs_names, run_count, runs_stand, run_fits, most_of}
use Rattle.runs.specs.Runs as runs-specs
use Rattle.bitmap.specs.Body.{bitmap_accepts, bitmap_layout, exact}
use Rattle.directory.specs.Directory.{directory_accepts, segments_fit, segment_fits, is_local, entry_of, part_of, end_before, names_of, piece_of}
use Rattle.directory.specs.Directory as directory-specs
use Rattle.directory.specs.Layout.{entry_layout, directory_layout}
use Rattle.forms.specs.Forms.{by_tag, local_accepts, local_names, local_layout}
use Rattle.single.specs.Single.{fit, view_of, bitmap_view, trimmed_missing_view, named_in, single_names}
use Rattle.single.specs.Layout.{first_of, extent_of, plain_layout, trimmed_layout, single_layout}
use Rattle.segmented.specs.Segmented.{segmented_accepts, segmented_names, part_accepts, part_names}
use Rattle.bodies.specs.Bodies.{accepts, names}
use Rattle.bodies.specs.Accepted.{dense_body, list_body, runs_body, trimmed_to, trimmed_bitmap_body, bitmap_body, missing_body, trimmed_missing_body}
use Rattle.rowset.specs.Calls.{asked, validate_of}
use Rattle.stats.specs.Statistics.{stats_of, joined}
use Rattle.cost.specs.Sizes.{binary, depth_of}
use Rattle.cost.specs.Forms.{items_form, bitmap_form, dense_form, order_of, lex, key_of, lesser, least, local_offers, local_form, runs_form, plain_offers, trimmed_offers, whole_form, payload}
use Rattle.gather_core.specs.Gather.{up_at, rises, impossible, above, early, late, or_else, one_seed, joins, added, added_to, added_all, added_all_to, seeded, paged, paged_to, some_number, page_number, page_answer, page_table, kept}
use Rattle.gather_core.specs.Gather as gather-specs
use Rattle.gather_core.specs.Seeds.{start_of, seed_at, seeds_fit, same_at, cuts, windows}
use Rattle.merge.specs.Rule.{without, cuts_from, one_if, contains, pairs, pairs_with, better, best, after_joins, later_offers, merged, offers}
use Rattle.links.specs.Pairs.{admits, saves, rows_admitted, rows_saving}
use Rattle.planning.specs.Refusals.{coverage_fits, count_fits, rows_fit, given_fit, ends_of, room_fits, early_number}
use Rattle.planning.specs.Segments.{part, between, cuts_left, offers_for, pieces, segments_of, stats_each}
use Rattle.planning.specs.Bodies.{payloads, larger, deepest, widest, segmented_form, segment_at, tag_of, payload_of, entries_of, payload_at, segmented_layout, choice_key, chosen, form_for, layout_by, body_of}
use Rattle.planning.specs.Planning.{planned_segments, planned_offers, planned_form, planned_body, late_number, planned_values, answered, plan_number, plan_of}
use Rattle.demands.specs.Table.{same, same_answer, nothing, holds, all_hold, cases}

pub examples_hold : all_hold cases ≡ true
unfolding cases nothing all_hold holds same_answer same digits both pick all tabulate flat total range below complement onto runs_of num_from list_layout missing_layout runs_bytes runs_layout bitmap_layout entry_layout directory_layout by_tag local_layout first_of extent_of plain_layout trimmed_layout single_layout binary depth_of stats_of joined positions_of items_form bitmap_form dense_form order_of lex key_of lesser least local_offers local_form runs_form plain_offers trimmed_offers whole_form up_at rises start_of seed_at seeds_fit same_at cuts windows without cuts_from one_if contains pairs pairs_with better best after_joins later_offers merged offers payload admits saves rows_admitted rows_saving coverage_fits count_fits rows_fit given_fit ends_of room_fits early_number part between cuts_left offers_for pieces segments_of stats_each payloads larger deepest widest segmented_form segment_at tag_of payload_of entries_of payload_at segmented_layout choice_key chosen form_for layout_by body_of planned_segments planned_offers planned_form planned_body late_number planned_values answered plan_number plan_of impossible above early late or_else one_seed joins added added_to added_all added_all_to seeded paged paged_to some_number page_number page_answer page_table gather-specs.answered kept validate_of asked accepts dense_body list_body runs_body trimmed_to trimmed_bitmap_body bitmap_body missing_body trimmed_missing_body names single_names view_of named_in local_accepts local_names counted shift fit dense_accepts runs_accepts runs_names run_count runs_stand run_fits runs-specs.fits runs-specs.least most_of entry le has list_accepts list_names rises_below climbs missing_accepts missing_names bitmap_view trimmed_missing_view bitmap_accepts exact bits_from named segmented_accepts segmented_names part_accepts part_names directory_accepts segments_fit segment_fits directory-specs.fits is_local entry_of part_of end_before names_of piece_of
examples_hold = refl
