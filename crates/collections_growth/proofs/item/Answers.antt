use Rattle.collections_growth.proofs.ItemLaws.{item_dynamic, item_plain}
use Rattle.collections_growth.proofs.item.Goals as goal

pub returns-then-t-eq-DYNAMIC : goal.returns-then-t-eq-DYNAMIC
returns-then-t-eq-DYNAMIC c = item_dynamic c.args.view.now.good c.deref.ensures c.if-t-eq-DYNAMIC.true

pub returns-else-t-eq-DYNAMIC : goal.returns-else-t-eq-DYNAMIC
returns-else-t-eq-DYNAMIC c = item_plain c.if-t-eq-DYNAMIC.false
