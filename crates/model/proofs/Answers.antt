-- What two equal answers have in common: a result is told from its answer.
-- Assumes nothing.
use mathlib.Core.Path.{◌≡◌, ap}
use lib.ListN.{length, get_or}
use Rattle.model.specs.Answers.{Answer}

pub same_number : {a b : Answer} → a ≡ b → a.number ≡ b.number
same_number e = ap (λ (x : Answer). x.number) e

pub same_size : {a b : Answer} → a ≡ b → length a.values ≡ length b.values
same_size e = ap (λ (x : Answer). length x.values) e

pub same_first : {a b : Answer} → a ≡ b → get_or a.values 0 0 ≡ get_or b.values 0 0
same_first e = ap (λ (x : Answer). get_or x.values 0 0) e
