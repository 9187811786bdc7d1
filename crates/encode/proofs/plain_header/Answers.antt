-- `encode::plain_header` meets its contract: no bytes, or two fields.
-- Assumes nothing.
use mathlib.Core.Path.{refl}
use native.Mathlib.Omega.{arith}
use mathlib.Core.Logic.{⊎_elim}
use Rattle.emit.proofs.Emitting.{written-length, written-put}
use Rattle.encode.proofs.Headers.{written_none, header_low, header_high, header_size, header_written}
use Rattle.encode.proofs.plain_header.Goals as goal

pub returns-then-tag-lt4 : goal.returns-then-tag-lt4
returns-then-tag-lt4 c = ⊎_elim (λ h. written_none _ _ (header_low _ _ _ h)) (λ h. written_none _ _ (header_high _ _ _ h.1)) c.then-tag-lt4.either

pub put16-requires : goal.put16-requires
put16-requires c = omega (arith, rw (header_size _ _ _ c.if-tag-lt4.false c.if-tag-gt7.false) at c.requires)

pub put16-requires-2 : goal.put16-requires-2
put16-requires-2 c = omega (arith, rw (header_size _ _ _ c.if-tag-lt4.false c.if-tag-gt7.false) at c.requires, written-length (written-put 2 _ _ c.put16.ensures refl))

pub returns : goal.returns
returns c = header_written _ _ _ _ c.if-tag-lt4.false c.if-tag-gt7.false c.beside-second.ensures c.put16.ensures c.put16-2.ensures
