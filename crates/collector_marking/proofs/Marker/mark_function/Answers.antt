use Rattle.collector_marking.proofs.Adding.{adds-none, adds_as}
use Rattle.collector_marking.proofs.Traced.{import_captures}
use Rattle.collector_marking.proofs.Marker.mark_function.Goals as goal

pub returns-else-import-eq0 : goal.returns-else-import-eq0
returns-else-import-eq0 c = adds_as (import_captures c.args.import _ c.if-import-eq0.false) adds-none
