-- What the code hands on: what a reading lends, and an error as the next call up tells it.
use Rattle.entries.specs.Source.{Source, source}
use Rattle.entries.specs.declared.source.Source as lent
use Rattle.entries.specs.declared.entry.EntryError.{EntryError}
use Rattle.entries.specs.declared.entry.EntryError.TheVariants as entry
use Rattle.entries.specs.declared.section.CountError.{CountError}
use Rattle.entries.specs.declared.section.CountError.TheVariants as count
use Rattle.entries.specs.declared.section.SectionError.{SectionError}
use Rattle.entries.specs.declared.section.SectionError.TheVariants as section
use Rattle.format.specs.declared.refusal.Reason.TheVariants as reason

-- what a reading lends
abbrev pub source_of : lent.«Source» → Source
source_of r = source r.vendors.now r.global r.section.now

-- what was not read of the entries, as counting tells it
unfoldable pub not_counted : EntryError → CountError
not_counted (entry.Nested key) = count.Refused (record { reason = reason.Nested; place = key })
not_counted (entry.Unread why key byte) = count.Unread (record { reason = why; place = key }) byte

-- a section that is not counted is not read, for the same reason
unfoldable pub not_read : CountError → SectionError
not_read (count.Refused why) = section.Refused why
not_read (count.Unread why byte) = section.Unread why byte
