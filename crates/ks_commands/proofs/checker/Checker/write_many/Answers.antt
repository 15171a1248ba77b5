use Rattle.ks_commands.proofs.CheckerLemmas.{stands_written}
use Rattle.ks_commands.proofs.checker.Checker.write_many.Goals as goal

pub returns-clause-moves : goal.returns-clause-moves
returns-clause-moves g c whole rest before h =
    stands_written c.write_out.result whole rest c.args.self.now c.write_out.new.self _ _ before h (c.write_out.ensures.told _ h.written_is)
