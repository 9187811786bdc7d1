-- The joined segment is sound.
-- Assumes nothing.
use Rattle.links.proofs.Segments.{join_sound}
use Rattle.links.proofs.admitted.Goals as goal

pub overflow_sub-whole : goal.overflow_sub-whole
overflow_sub-whole c = (join_sound _ _ _ c.join-whole.ensures c.requires).ordered

pub payload-requires : goal.payload-requires
payload-requires c = join_sound _ _ _ c.join-whole.ensures c.requires
