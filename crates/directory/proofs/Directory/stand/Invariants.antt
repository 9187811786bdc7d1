-- `directory::Directory::stand`: what the entries before index i add up to.
-- Assumes nothing.
use Rattle.directory.proofs.Checking.{Standing}
use Rattle.directory.proofs.Directory.stand.Given as goal

abbrev pub invariant-loop-i : goal.invariant-loop-i
invariant-loop-i l = Standing l.self.body.now l.span l.self.n l.i l.ok l.free l.rows l.at
