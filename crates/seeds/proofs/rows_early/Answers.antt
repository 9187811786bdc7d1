-- `seeds::rows_early` meets its contract.
-- Assumes nothing.
use Rattle.std.proofs.Common.{arith}
use Rattle.std.proofs.lemmas.List.{length-map}
use Rattle.model.proofs.Counted.{test_is}
use Rattle.seeds.proofs.Judging.{count_some, seeds_few, fails_1, fails_2, fails_3, fails_4, fails_5, passes}
use Rattle.seeds.proofs.rows_early.Goals as goal

pub returns-then-not-covers : goal.returns-then-not-covers
returns-then-not-covers g c = fails_1 _ _ _ _ _ (test_is c.covers.ensures c.if-not-covers.true)

pub returns-then-not-count_fits : goal.returns-then-not-count_fits
returns-then-not-count_fits g c =
    fails_2 _ _ _ _ _ (test_is c.covers.ensures c.if-not-covers.false) (test_is c.count_fits.ensures c.if-not-count_fits.true)

pub rows_fit-requires : goal.rows_fit-requires
rows_fit-requires g c = rw length-map at (count_some _ (test_is c.count_fits.ensures c.if-not-count_fits.false)).0

pub returns-then-not-rows_fit : goal.returns-then-not-rows_fit
returns-then-not-rows_fit g c =
    fails_3 _ _ _ _ _ (test_is c.covers.ensures c.if-not-covers.false) (test_is c.count_fits.ensures c.if-not-count_fits.false) (test_is c.rows_fit.ensures c.if-not-rows_fit.true)

pub returns-then-not-given_fit : goal.returns-then-not-given_fit
returns-then-not-given_fit g c =
    fails_4 _ _ _ _ _ (test_is c.covers.ensures c.if-not-covers.false) (test_is c.count_fits.ensures c.if-not-count_fits.false) (test_is c.rows_fit.ensures c.if-not-rows_fit.false) (test_is c.given_fit.ensures c.if-not-given_fit.true)

pub count_seeds-n-requires : goal.count_seeds-n-requires
count_seeds-n-requires g c = rw length-map at (count_some _ (test_is c.count_fits.ensures c.if-not-count_fits.false)).0

pub overflow_mul-n : goal.overflow_mul-n
overflow_mul-n g c =
    omega (arith, c.count_seeds-n.ensures, seeds_few _ _ (test_is c.count_fits.ensures c.if-not-count_fits.false) (test_is c.given_fit.ensures c.if-not-given_fit.false))

pub returns-then-words-n : goal.returns-then-words-n
returns-then-words-n g c =
    fails_5 _ _ _ _ _ (test_is c.covers.ensures c.if-not-covers.false) (test_is c.count_fits.ensures c.if-not-count_fits.false) (test_is c.rows_fit.ensures c.if-not-rows_fit.false) (test_is c.given_fit.ensures c.if-not-given_fit.false) _ c.count_seeds-n.ensures c.if-words-n.true

pub returns : goal.returns
returns g c =
    passes _ _ _ _ _ (test_is c.covers.ensures c.if-not-covers.false) (test_is c.count_fits.ensures c.if-not-count_fits.false) (test_is c.rows_fit.ensures c.if-not-rows_fit.false) (test_is c.given_fit.ensures c.if-not-given_fit.false) _ c.count_seeds-n.ensures c.if-words-n.false
