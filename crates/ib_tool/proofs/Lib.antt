mod CountLaws
mod Forms
mod Telling
mod TextLaws
