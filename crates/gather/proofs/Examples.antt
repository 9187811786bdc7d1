-- Gathering on document 01's pages, by computation.
-- Assumes nothing.
use mathlib.Core.Path.{◌≡◌, refl}
use mathlib.Core.List.{[], ◌∷◌}
use Rattle.model.specs.Tests.{pick, both, all}
use Rattle.model.specs.Answers.{accepted, refused}
use Rattle.gather_core.specs.declared.Gatherer.{Gatherer}
use Rattle.gather.specs.Records.{row_record, page_record}
use Rattle.gather_core.specs.Gather.{answered, kept, impossible, above, early, late, or_else, joins, added, added_to, row_number, row_answer, row_table, up_at, rises, one_seed, added_all, added_all_to, seeded, paged, paged_to, some_number, page_number, page_answer, page_table}

nothing : Gatherer
nothing = record { entries = 0; rows = 0; first = 0; last = 0 }

-- rows 0 and 65534 as one page are one seed, 0 and 65535 two
one_seed_lem : page_answer nothing 3 (0 ∷ 65534 ∷ []) ≡ accepted (1 ∷ 2 ∷ 0 ∷ 65534 ∷ [])
unfolding nothing answered impossible above early late or_else up_at rises one_seed seeded paged some_number page_number page_answer pick both all
one_seed_lem = refl

one_end : page_table nothing (9 ∷ 9 ∷ 9 ∷ []) (0 ∷ 65534 ∷ []) ≡ 2 ∷ 9 ∷ 9 ∷ []
unfolding nothing kept impossible above early late or_else up_at rises one_seed seeded paged paged_to some_number page_number page_table pick both all
one_end = refl

two_seeds : page_answer nothing 3 (0 ∷ 65535 ∷ []) ≡ accepted (2 ∷ 2 ∷ 65535 ∷ 65535 ∷ [])
unfolding nothing answered impossible above early late or_else joins added added_all up_at rises one_seed seeded paged some_number page_number page_answer pick both all
two_seeds = refl

two_ends : page_table nothing (9 ∷ 9 ∷ 9 ∷ []) (0 ∷ 65535 ∷ []) ≡ 1 ∷ 2 ∷ 9 ∷ []
unfolding nothing kept impossible above early late or_else joins added added_to added_all added_all_to up_at rises one_seed seeded paged paged_to some_number page_number page_table pick both all
two_ends = refl

-- with room for one they are refused, and the table stays
no_room : (page_answer nothing 1 (0 ∷ 65535 ∷ []) ≡ refused 11) × (page_table nothing (9 ∷ []) (0 ∷ 65535 ∷ []) ≡ 9 ∷ [])
unfolding nothing answered kept impossible above early late or_else joins added added_all up_at rises one_seed seeded paged some_number page_number page_answer page_table pick both all
no_room = (refl, refl)

-- a row joins a page's seed by the window of that seed's first row: 4095 joins, 4096 begins a seed
after_page : Gatherer
after_page = record { entries = 1; rows = 2; first = 0; last = 9 }

joined : (row_answer after_page 3 4095 ≡ accepted (1 ∷ 3 ∷ 0 ∷ 4095 ∷ [])) × (row_table after_page (2 ∷ 9 ∷ []) 4095 ≡ 3 ∷ 9 ∷ [])
unfolding after_page answered kept impossible above early late or_else joins added added_to row_number row_answer row_table pick
joined = (refl, refl)

begun : (row_answer after_page 3 4096 ≡ accepted (2 ∷ 3 ∷ 4096 ∷ 4096 ∷ [])) × (row_table after_page (2 ∷ 9 ∷ []) 4096 ≡ 2 ∷ 3 ∷ [])
unfolding after_page answered kept impossible above early late or_else joins added added_to row_number row_answer row_table pick
begun = (refl, refl)

-- the order of the refusals: 12 before 3, 3 before 2, 2 before 11
full : Gatherer
full = record { entries = 1; rows = 65535; first = 5; last = 70000 }

order : (row_answer full 0 1 ≡ refused 12) × (row_answer full 1 70000 ≡ refused 3) × (row_answer full 1 99999 ≡ refused 2) × (row_answer after_page 1 4096 ≡ refused 11)
unfolding full after_page answered impossible above early late or_else joins added row_number row_answer pick
order = (refl, refl, refl, refl)

-- after test 12 an empty page is accepted and changes nothing
empty : (page_answer full 1 [] ≡ accepted (1 ∷ 65535 ∷ 5 ∷ 70000 ∷ [])) × (page_answer full 0 [] ≡ refused 12)
unfolding full answered impossible page_number page_answer pick
empty = (refl, refl)

-- the record lent to be changed: the new one for a page that is taken, the old one for a page or a row that is refused
records : (page_record nothing 3 (0 ∷ 65534 ∷ []) ≡ record { entries = 1; rows = 2; first = 0; last = 65534 }) × (page_record nothing 1 (0 ∷ 65535 ∷ []) ≡ nothing) × (row_record after_page 1 4096 ≡ after_page)
unfolding nothing after_page impossible above early late or_else joins added added_all up_at rises one_seed seeded paged some_number page_number row_number row_record page_record kept pick both all
records = (refl, refl, refl)
