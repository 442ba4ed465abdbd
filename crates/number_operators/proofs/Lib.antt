mod KindLaws
mod PowerLaws
mod PowersOfTwo
mod SignLaws
