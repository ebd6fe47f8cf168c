use Rattle.std.proofs.Common.{sym, ap, ◌∙◌}
use Rattle.protocol.specs.Tables.{table_of}
use Rattle.book.specs.Kinds.{Kind}
use Rattle.player.proofs.Fitting.{port_fits}
use Rattle.player.proofs.loaded.Loaded.table_fits.Goals as goal

pub returns-in-Some : goal.returns-in-Some
returns-in-Some g c =
    c.has_table.ensures
    ∙ port_fits c.args.self.now (g.R.Rig.ports c.args.rig.now) c.args.port c.kind.result c.in-Some.table.now c.requires c.kind.ensures c.in-Some.ensures.shows

pub returns-in-None : goal.returns-in-None
returns-in-None g c =
    c.has_table-in-None.ensures
    ∙ port_fits c.args.self.now (g.R.Rig.ports c.args.rig.now) c.args.port c.kind.result c.new.result c.requires c.kind.ensures
    (λ s l a. c.new.ensures s l a ∙ ap (λ (k : Kind). table_of k.edges s l a) (sym c.in-None.ensures.shows))
