-- What a relation and a table stand for. Assumes nothing.
use Rattle.orders.specs.declared.table.Relation.{Relation}
use Rattle.orders.specs.declared.table.Table.{Table}
use Rattle.orders.specs.Orders.{Order}
use Rattle.orders.specs.Tables.{tabled}

abbrev pub relation_order : Relation → Order
relation_order r = tabled r.count r.rows

abbrev pub table_order : Table → Order
table_order t = relation_order t.relation
