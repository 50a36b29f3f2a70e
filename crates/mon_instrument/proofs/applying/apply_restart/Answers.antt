use Rattle.std.proofs.Common.{refl, true}
use Rattle.mon_history.specs.Kept.{config_of}
use Rattle.mon_code.specs.Sites.{sites_of}
use Rattle.mon_instrument.specs.declared.walking.Reach.{Reach}
use Rattle.mon_instrument.proofs.Standing.{applied, board_after, all_stay, lives_all}
use Rattle.mon_instrument.proofs.applying.apply_restart.Goals as goal

pub returns-clause-told : goal.returns-clause-told
returns-clause-told g c = applied (sites_of c.args.program.now) (config_of c.args.config.now) true (g.S.Halted.halt c.args.s.now) (g.S.Halted.halt c.walk.new.s) (g.S.Halted.halt c.set_words.new.s) c.requires.laid c.walk.ensures.told c.set_words.ensures.told

pub returns-clause-board : goal.returns-clause-board
returns-clause-board g c = board_after (sites_of c.args.program.now) (config_of c.args.config.now) (config_of c.args.config.now) Reach.Everywhere true (g.S.Halted.halt c.args.s.now) (g.S.Halted.halt c.walk.new.s) (g.S.Halted.halt c.set_words.new.s)
    (record { wants = refl; local = refl; calls = refl }) c.requires.laid (all_stay (sites_of c.args.program.now) true (config_of c.args.config.now) (g.S.Halted.halt c.args.s.now).board)
    (lives_all (sites_of c.args.program.now) (config_of c.args.config.now) (g.S.Halted.halt c.args.s.now).board refl) c.walk.ensures.told c.set_words.ensures.told
