-- A book in a file may go to another thread.
use denote.RattleType.{RattleType}
use denote.Struct.Declared as declared
use denote.Struct.Struct.{Struct, Shape}
use denote.Param.Send.{IsSend, sendable, recorded_send, struct_send, view_send}
use Rattle.std.proofs.Crossing.{crosses}
use Rattle.ks_keeper.specs.contracts.book.Book as book
use Rattle.ks_keeper.specs.contracts.optional_book.OptionalBook as optional
use Rattle.sqlite.specs.contracts.cache.Entry as entry
use Rattle.sqlite.specs.contracts.connection.Connection as connection
use Rattle.sqlite.specs.contracts.history.History as history
use Rattle.sqlite_disk.specs.contracts.modelled.Modelled as modelled
use Rattle.sqlite_disk.specs.contracts.modelled.ModelledDisk.TheImpl as modelled_disk
use Rattle.sqlite_disk.specs.contracts.start.Unknown as unknown
use Rattle.sqlite_disk.specs.contracts.start.UnknownStart.TheImpl as start
use Rattle.sqlite_items.specs.contracts.items.Items as items
use Rattle.sqlite_pager.specs.contracts.pager.Pager as pager
use Rattle.sqlite_pool.specs.contracts.backing.Backing as backing
use Rattle.sqlite_pool.specs.contracts.pool.Pool as pool
use Rattle.sqlite_resolve.specs.contracts.compiled.Compiled as compiled
use Rattle.sqlite_schema.specs.contracts.code.Terms as terms
use Rattle.sqlite_schema.specs.contracts.command.Command as command
use Rattle.sqlite_schema.specs.contracts.command.Returning as returning
use Rattle.sqlite_schema.specs.contracts.command.Source as source
use Rattle.sqlite_schema.specs.contracts.command.Upsert as upsert
use Rattle.sqlite_schema.specs.contracts.plan.Plan as plan
use Rattle.sqlite_schema.specs.contracts.program.Program as program
use Rattle.sqlite_schema.specs.contracts.program.Table as part
use Rattle.sqlite_schema.specs.contracts.schema.Column as column
use Rattle.sqlite_schema.specs.contracts.schema.Index as index
use Rattle.sqlite_schema.specs.contracts.schema.Reference as reference
use Rattle.sqlite_schema.specs.contracts.schema.Schema as schema
use Rattle.sqlite_schema.specs.contracts.schema.Stamps as stamps
use Rattle.sqlite_schema.specs.contracts.schema.Table as table
use Rattle.sqlite_schema.specs.contracts.schema.View as view
use Rattle.sqlite_std_file.specs.contracts.host.Host as host
use Rattle.sqlite_std_file.specs.contracts.host.HostCalls.TheImpl as calls
use Rattle.sqlite_store.specs.contracts.store.FileStore as store
use Rattle.sqlite_store.specs.contracts.store.FileStoreStore.TheImpl as store_store
use Rattle.sqlite_wal.specs.contracts.log.Log as log

abbrev disk : RattleType
disk = modelled.the_row host.the_row unknown.the_row calls.ghosts start.ghosts

module _ (T : RattleType) where
  abbrev items_shape : Shape
  items_shape = declared.shape (items.TheInside.the_type T)

  items_send : IsSend T → IsSend (items.the_row T)
  items_send s =
      let of = items.TheInside.the_type T in
      let fields : IsSend (Struct items_shape) = struct_send items_shape (search (s, crosses, sendable) depth 30, tt) in
      view_send (items.TheInside.the_row T) _ _ _ _ (recorded_send (Struct items_shape) _ of.to of.to_one fields)

terms_send : IsSend terms.the_row
terms_send = search (items_send, crosses, sendable) depth 100 fits 100000

abbrev column_shape : Shape
column_shape = declared.shape (column.the_type)

column_fields : IsSend (Struct column_shape)
column_fields = struct_send column_shape (search (items_send, crosses, sendable) depth 100 fits 100000, (search (items_send, crosses, sendable) depth 100 fits 100000, (search (items_send, crosses, sendable) depth 100 fits 100000, (search (items_send, crosses, sendable) depth 100 fits 100000, (search (items_send, crosses, sendable) depth 100 fits 100000, (search (items_send, crosses, sendable) depth 100 fits 100000, tt))))))

column_send : IsSend (column.the_row)
column_send = recorded_send (Struct column_shape) _ (column.the_type).to (column.the_type).to_one column_fields

abbrev reference_shape : Shape
reference_shape = declared.shape (reference.the_type)

reference_fields : IsSend (Struct reference_shape)
reference_fields = struct_send reference_shape (search (items_send, crosses, sendable) depth 100 fits 100000, (search (items_send, crosses, sendable) depth 100 fits 100000, (search (items_send, crosses, sendable) depth 100 fits 100000, (search (items_send, crosses, sendable) depth 100 fits 100000, (search (items_send, crosses, sendable) depth 100 fits 100000, (search (items_send, crosses, sendable) depth 100 fits 100000, tt))))))

reference_send : IsSend (reference.the_row)
reference_send = recorded_send (Struct reference_shape) _ (reference.the_type).to (reference.the_type).to_one reference_fields

abbrev stamps_shape : Shape
stamps_shape = declared.shape (stamps.the_type)

stamps_fields : IsSend (Struct stamps_shape)
stamps_fields = struct_send stamps_shape (search (terms_send, items_send, crosses, sendable) depth 100 fits 100000, (search (terms_send, items_send, crosses, sendable) depth 100 fits 100000, (search (terms_send, items_send, crosses, sendable) depth 100 fits 100000, tt)))

stamps_send : IsSend (stamps.the_row)
stamps_send = recorded_send (Struct stamps_shape) _ (stamps.the_type).to (stamps.the_type).to_one stamps_fields

abbrev table_shape : Shape
table_shape = declared.shape (table.the_type)

table_fields : IsSend (Struct table_shape)
table_fields = struct_send table_shape (search (stamps_send, reference_send, column_send, terms_send, items_send, crosses, sendable) depth 100 fits 100000, (search (stamps_send, reference_send, column_send, terms_send, items_send, crosses, sendable) depth 100 fits 100000, (search (stamps_send, reference_send, column_send, terms_send, items_send, crosses, sendable) depth 100 fits 100000, (search (stamps_send, reference_send, column_send, terms_send, items_send, crosses, sendable) depth 100 fits 100000, (search (stamps_send, reference_send, column_send, terms_send, items_send, crosses, sendable) depth 100 fits 100000, (search (stamps_send, reference_send, column_send, terms_send, items_send, crosses, sendable) depth 100 fits 100000, (search (stamps_send, reference_send, column_send, terms_send, items_send, crosses, sendable) depth 100 fits 100000, (search (stamps_send, reference_send, column_send, terms_send, items_send, crosses, sendable) depth 100 fits 100000, (search (stamps_send, reference_send, column_send, terms_send, items_send, crosses, sendable) depth 100 fits 100000, (search (stamps_send, reference_send, column_send, terms_send, items_send, crosses, sendable) depth 100 fits 100000, (search (stamps_send, reference_send, column_send, terms_send, items_send, crosses, sendable) depth 100 fits 100000, (search (stamps_send, reference_send, column_send, terms_send, items_send, crosses, sendable) depth 100 fits 100000, tt))))))))))))

table_send : IsSend (table.the_row)
table_send = recorded_send (Struct table_shape) _ (table.the_type).to (table.the_type).to_one table_fields

abbrev index_shape : Shape
index_shape = declared.shape (index.the_type)

index_fields : IsSend (Struct index_shape)
index_fields = struct_send index_shape (search (items_send, crosses, sendable) depth 100 fits 100000, (search (items_send, crosses, sendable) depth 100 fits 100000, (search (items_send, crosses, sendable) depth 100 fits 100000, (search (items_send, crosses, sendable) depth 100 fits 100000, (search (items_send, crosses, sendable) depth 100 fits 100000, (search (items_send, crosses, sendable) depth 100 fits 100000, tt))))))

index_send : IsSend (index.the_row)
index_send = recorded_send (Struct index_shape) _ (index.the_type).to (index.the_type).to_one index_fields

abbrev view_shape : Shape
view_shape = declared.shape (view.the_type)

view_fields : IsSend (Struct view_shape)
view_fields = struct_send view_shape (search (items_send, crosses, sendable) depth 100 fits 100000, (search (items_send, crosses, sendable) depth 100 fits 100000, (search (items_send, crosses, sendable) depth 100 fits 100000, (search (items_send, crosses, sendable) depth 100 fits 100000, (search (items_send, crosses, sendable) depth 100 fits 100000, (search (items_send, crosses, sendable) depth 100 fits 100000, tt))))))

listed_send : IsSend (view.the_row)
listed_send = recorded_send (Struct view_shape) _ (view.the_type).to (view.the_type).to_one view_fields

abbrev schema_shape : Shape
schema_shape = declared.shape (schema.the_type)

schema_fields : IsSend (Struct schema_shape)
schema_fields = struct_send schema_shape (search (table_send, index_send, listed_send, items_send, crosses, sendable) depth 100 fits 100000, (search (table_send, index_send, listed_send, items_send, crosses, sendable) depth 100 fits 100000, (search (table_send, index_send, listed_send, items_send, crosses, sendable) depth 100 fits 100000, tt)))

schema_send : IsSend (schema.the_row)
schema_send = recorded_send (Struct schema_shape) _ (schema.the_type).to (schema.the_type).to_one schema_fields

plan_send : IsSend plan.the_row
plan_send = search (terms_send, items_send, crosses, sendable) depth 100 fits 100000

part_send : IsSend part.the_row
part_send = search (plan_send, terms_send, items_send, crosses, sendable) depth 100 fits 100000

abbrev program_shape : Shape
program_shape = declared.shape (program.the_type)

program_fields : IsSend (Struct program_shape)
program_fields = struct_send program_shape (search (part_send, plan_send, items_send, crosses, sendable) depth 100 fits 100000, (search (part_send, plan_send, items_send, crosses, sendable) depth 100 fits 100000, tt))

program_send : IsSend (program.the_row)
program_send = recorded_send (Struct program_shape) _ (program.the_type).to (program.the_type).to_one program_fields

source_field : IsSend (source.the_field).row
source_field = search (program_send, program_fields, plan_send, terms_send, items_send, crosses, sendable) depth 100 fits 100000

abbrev returning_shape : Shape
returning_shape = declared.shape (returning.the_type)

returning_fields : IsSend (Struct returning_shape)
returning_fields = struct_send returning_shape (search (source_field, items_send, crosses, sendable) depth 100 fits 100000, (search (source_field, items_send, crosses, sendable) depth 100 fits 100000, tt))

returning_send : IsSend (returning.the_row)
returning_send = recorded_send (Struct returning_shape) _ (returning.the_type).to (returning.the_type).to_one returning_fields

abbrev upsert_shape : Shape
upsert_shape = declared.shape (upsert.the_type)

upsert_fields : IsSend (Struct upsert_shape)
upsert_fields = struct_send upsert_shape (search (program_send, program_fields, items_send, crosses, sendable) depth 100 fits 100000, (search (program_send, program_fields, items_send, crosses, sendable) depth 100 fits 100000, tt))

upsert_send : IsSend (upsert.the_row)
upsert_send = recorded_send (Struct upsert_shape) _ (upsert.the_type).to (upsert.the_type).to_one upsert_fields

command_field : IsSend (command.the_field).row
command_field = search (source_field, program_send, program_fields, returning_send, upsert_send, terms_send, items_send, crosses, sendable) depth 100 fits 100000

abbrev compiled_shape : Shape
compiled_shape = declared.shape (compiled.the_type)

compiled_fields : IsSend (Struct compiled_shape)
compiled_fields = struct_send compiled_shape (search (command_field, returning_send, items_send, crosses, sendable) depth 100 fits 100000, (search (command_field, returning_send, items_send, crosses, sendable) depth 100 fits 100000, (search (command_field, returning_send, items_send, crosses, sendable) depth 100 fits 100000, (search (command_field, returning_send, items_send, crosses, sendable) depth 100 fits 100000, (search (command_field, returning_send, items_send, crosses, sendable) depth 100 fits 100000, (search (command_field, returning_send, items_send, crosses, sendable) depth 100 fits 100000, (search (command_field, returning_send, items_send, crosses, sendable) depth 100 fits 100000, tt)))))))

abbrev entry_shape : Shape
entry_shape = declared.shape (entry.the_type)

entry_fields : IsSend (Struct entry_shape)
entry_fields = struct_send entry_shape (search (compiled_fields, crosses, sendable) depth 100 fits 100000, (search (compiled_fields, crosses, sendable) depth 100 fits 100000, (search (compiled_fields, crosses, sendable) depth 100 fits 100000, tt)))

entry_send : IsSend (entry.the_row)
entry_send = recorded_send (Struct entry_shape) _ (entry.the_type).to (entry.the_type).to_one entry_fields

abbrev history_shape : Shape
history_shape = declared.shape (history.the_type)

history_fields : IsSend (Struct history_shape)
history_fields = struct_send history_shape (search (schema_send, items_send, crosses, sendable) depth 100 fits 100000, (search (schema_send, items_send, crosses, sendable) depth 100 fits 100000, tt))

abbrev log_shape : Shape
log_shape = declared.shape (log.the_type disk (modelled_disk.ghosts host.the_row unknown.the_row calls.ghosts modelled_disk.no_dict start.ghosts modelled_disk.no_dict modelled_disk.no_dict))

log_fields : IsSend (Struct log_shape)
log_fields = struct_send log_shape (search (crosses, sendable) depth 200 fits 200000, (search (crosses, sendable) depth 200 fits 200000, (search (crosses, sendable) depth 200 fits 200000, (search (crosses, sendable) depth 200 fits 200000, (search (crosses, sendable) depth 200 fits 200000, (search (crosses, sendable) depth 200 fits 200000, (search (crosses, sendable) depth 200 fits 200000, (search (crosses, sendable) depth 200 fits 200000, (search (crosses, sendable) depth 200 fits 200000, (search (crosses, sendable) depth 200 fits 200000, (search (crosses, sendable) depth 200 fits 200000, (search (crosses, sendable) depth 200 fits 200000, (search (crosses, sendable) depth 200 fits 200000, tt)))))))))))))

abbrev pager_shape : Shape
pager_shape = declared.shape (pager.the_type disk (modelled_disk.ghosts host.the_row unknown.the_row calls.ghosts modelled_disk.no_dict start.ghosts modelled_disk.no_dict modelled_disk.no_dict))

pager_fields : IsSend (Struct pager_shape)
pager_fields = struct_send pager_shape (log_fields, (search (crosses, sendable) depth 40, (search (crosses, sendable) depth 40, (search (crosses, sendable) depth 40, (search (crosses, sendable) depth 200 fits 200000, (search (crosses, sendable) depth 40, (search (crosses, sendable) depth 40, (search (crosses, sendable) depth 200 fits 200000, (search (crosses, sendable) depth 40, (search (crosses, sendable) depth 40, (search (crosses, sendable) depth 40, (search (crosses, sendable) depth 40, (search (crosses, sendable) depth 40, (search (crosses, sendable) depth 40, tt))))))))))))))

abbrev backing_shape : Shape
backing_shape = declared.shape (backing.the_type disk (modelled_disk.ghosts host.the_row unknown.the_row calls.ghosts modelled_disk.no_dict start.ghosts modelled_disk.no_dict modelled_disk.no_dict))

backing_fields : IsSend (Struct backing_shape)
backing_fields = struct_send backing_shape (pager_fields, (search (crosses, sendable) depth 40, (search (crosses, sendable) depth 40, (search (crosses, sendable) depth 40, (search (crosses, sendable) depth 40, tt)))))

abbrev pool_shape : Shape
pool_shape = declared.shape (pool.the_type disk (modelled_disk.ghosts host.the_row unknown.the_row calls.ghosts modelled_disk.no_dict start.ghosts modelled_disk.no_dict modelled_disk.no_dict))

pool_fields : IsSend (Struct pool_shape)
pool_fields = struct_send pool_shape (backing_fields, (search (crosses, sendable) depth 40, (search (crosses, sendable) depth 40, (search (crosses, sendable) depth 40, (search (crosses, sendable) depth 40, (search (crosses, sendable) depth 40, (search (crosses, sendable) depth 40, tt)))))))

abbrev store_shape : Shape
store_shape = declared.shape (store.the_type disk (modelled_disk.ghosts host.the_row unknown.the_row calls.ghosts modelled_disk.no_dict start.ghosts modelled_disk.no_dict modelled_disk.no_dict))

store_fields : IsSend (Struct store_shape)
store_fields = struct_send store_shape (pool_fields, (search (crosses, sendable) depth 40, (search (crosses, sendable) depth 40, (search (crosses, sendable) depth 40, (search (crosses, sendable) depth 200 fits 200000, (search (crosses, sendable) depth 40, (search (crosses, sendable) depth 40, (search (crosses, sendable) depth 40, (search (crosses, sendable) depth 40, (search (crosses, sendable) depth 40, (search (crosses, sendable) depth 40, (search (crosses, sendable) depth 40, tt))))))))))))

store_send : IsSend (store.the_row disk (modelled_disk.ghosts host.the_row unknown.the_row calls.ghosts modelled_disk.no_dict start.ghosts modelled_disk.no_dict modelled_disk.no_dict))
store_send = recorded_send (Struct store_shape) _ (store.the_type disk (modelled_disk.ghosts host.the_row unknown.the_row calls.ghosts modelled_disk.no_dict start.ghosts modelled_disk.no_dict modelled_disk.no_dict)).to (store.the_type disk (modelled_disk.ghosts host.the_row unknown.the_row calls.ghosts modelled_disk.no_dict start.ghosts modelled_disk.no_dict modelled_disk.no_dict)).to_one store_fields

abbrev connection_shape : Shape
connection_shape = declared.shape (connection.TheInside.the_type (store.the_row disk (modelled_disk.ghosts host.the_row unknown.the_row calls.ghosts modelled_disk.no_dict start.ghosts modelled_disk.no_dict modelled_disk.no_dict)) (store_store.ghosts disk (modelled_disk.ghosts host.the_row unknown.the_row calls.ghosts modelled_disk.no_dict start.ghosts modelled_disk.no_dict modelled_disk.no_dict) store_store.no_dict))

connection_fields : IsSend (Struct connection_shape)
connection_fields = struct_send connection_shape (store_send, (schema_fields, (history_fields, (search (crosses, sendable) depth 200 fits 200000, (search (crosses, sendable) depth 200 fits 200000, (search (crosses, sendable) depth 200 fits 200000, (search (entry_send, entry_fields, crosses, sendable) depth 40, (search (crosses, sendable) depth 200 fits 200000, (search (crosses, sendable) depth 200 fits 200000, (search (crosses, sendable) depth 200 fits 200000, (search (crosses, sendable) depth 200 fits 200000, (search (crosses, sendable) depth 200 fits 200000, (search (crosses, sendable) depth 200 fits 200000, (search (crosses, sendable) depth 200 fits 200000, tt))))))))))))))

connection_send : IsSend (connection.the_row (store.the_row disk (modelled_disk.ghosts host.the_row unknown.the_row calls.ghosts modelled_disk.no_dict start.ghosts modelled_disk.no_dict modelled_disk.no_dict)) (store_store.ghosts disk (modelled_disk.ghosts host.the_row unknown.the_row calls.ghosts modelled_disk.no_dict start.ghosts modelled_disk.no_dict modelled_disk.no_dict) store_store.no_dict))
connection_send =
    let of = connection.TheInside.the_type (store.the_row disk (modelled_disk.ghosts host.the_row unknown.the_row calls.ghosts modelled_disk.no_dict start.ghosts modelled_disk.no_dict modelled_disk.no_dict)) (store_store.ghosts disk (modelled_disk.ghosts host.the_row unknown.the_row calls.ghosts modelled_disk.no_dict start.ghosts modelled_disk.no_dict modelled_disk.no_dict) store_store.no_dict) in
    view_send (connection.TheInside.the_row (store.the_row disk (modelled_disk.ghosts host.the_row unknown.the_row calls.ghosts modelled_disk.no_dict start.ghosts modelled_disk.no_dict modelled_disk.no_dict)) (store_store.ghosts disk (modelled_disk.ghosts host.the_row unknown.the_row calls.ghosts modelled_disk.no_dict start.ghosts modelled_disk.no_dict modelled_disk.no_dict) store_store.no_dict)) _ _ _ _ (recorded_send (Struct connection_shape) _ of.to of.to_one connection_fields)

abbrev book_shape : Shape
book_shape = declared.shape (book.TheInside.the_type (store.the_row disk (modelled_disk.ghosts host.the_row unknown.the_row calls.ghosts modelled_disk.no_dict start.ghosts modelled_disk.no_dict modelled_disk.no_dict)) (store_store.ghosts disk (modelled_disk.ghosts host.the_row unknown.the_row calls.ghosts modelled_disk.no_dict start.ghosts modelled_disk.no_dict modelled_disk.no_dict) store_store.no_dict))

book_fields : IsSend (Struct book_shape)
book_fields = struct_send book_shape (search (connection_send, crosses, sendable) depth 40, (search (crosses, sendable) depth 40, (search (crosses, sendable) depth 40, (search (connection_send, crosses, sendable) depth 40, tt))))

book_send : IsSend (book.the_row (store.the_row disk (modelled_disk.ghosts host.the_row unknown.the_row calls.ghosts modelled_disk.no_dict start.ghosts modelled_disk.no_dict modelled_disk.no_dict)) (store_store.ghosts disk (modelled_disk.ghosts host.the_row unknown.the_row calls.ghosts modelled_disk.no_dict start.ghosts modelled_disk.no_dict modelled_disk.no_dict) store_store.no_dict))
book_send =
    let of = book.TheInside.the_type (store.the_row disk (modelled_disk.ghosts host.the_row unknown.the_row calls.ghosts modelled_disk.no_dict start.ghosts modelled_disk.no_dict modelled_disk.no_dict)) (store_store.ghosts disk (modelled_disk.ghosts host.the_row unknown.the_row calls.ghosts modelled_disk.no_dict start.ghosts modelled_disk.no_dict modelled_disk.no_dict) store_store.no_dict) in
    view_send (book.TheInside.the_row (store.the_row disk (modelled_disk.ghosts host.the_row unknown.the_row calls.ghosts modelled_disk.no_dict start.ghosts modelled_disk.no_dict modelled_disk.no_dict)) (store_store.ghosts disk (modelled_disk.ghosts host.the_row unknown.the_row calls.ghosts modelled_disk.no_dict start.ghosts modelled_disk.no_dict modelled_disk.no_dict) store_store.no_dict)) _ _ _ _ (recorded_send (Struct book_shape) _ of.to of.to_one book_fields)

abbrev optional_shape : Shape
optional_shape = declared.shape (optional.the_type)

optional_fields : IsSend (Struct optional_shape)
optional_fields = struct_send optional_shape (search (book_send, crosses, sendable) depth 40, tt)

pub optional_book_send : IsSend optional.the_row
optional_book_send = recorded_send (Struct optional_shape) _ optional.the_type.to optional.the_type.to_one optional_fields
