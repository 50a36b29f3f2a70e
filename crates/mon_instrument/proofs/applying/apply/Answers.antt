use Rattle.std.proofs.Common.{refl, false}
use Rattle.mon_history.specs.Kept.{config_of}
use Rattle.mon_code.specs.Sites.{sites_of}
use Rattle.mon_instrument.specs.declared.walking.Reach.{Reach}
use Rattle.mon_instrument.proofs.Standing.{applied, board_after, all_stay, lives_kept}
use Rattle.mon_instrument.proofs.applying.apply.Goals as goal

pub returns-clause-told : goal.returns-clause-told
returns-clause-told g c = applied (sites_of c.args.program.now) (config_of c.args.config.now) false (g.S.Halted.halt c.args.s.now) (g.S.Halted.halt c.walk.new.s) (g.S.Halted.halt c.set_words.new.s) c.requires.laid c.walk.ensures.told c.set_words.ensures.told

pub returns-clause-board : goal.returns-clause-board
returns-clause-board g c = λ D o. board_after (sites_of c.args.program.now) (config_of c.args.config.now) (record (config_of c.args.config.now) { off = D.off }) Reach.Everywhere false (g.S.Halted.halt c.args.s.now) (g.S.Halted.halt c.walk.new.s) (g.S.Halted.halt c.set_words.new.s)
    (record { wants = refl; local = refl; calls = refl }) c.requires.laid (all_stay (sites_of c.args.program.now) false (config_of c.args.config.now) (g.S.Halted.halt c.args.s.now).board)
    (lives_kept (sites_of c.args.program.now) D (record (config_of c.args.config.now) { off = D.off }) (g.S.Halted.halt c.args.s.now).board o refl) c.walk.ensures.told c.set_words.ensures.told
